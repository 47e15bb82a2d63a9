-- The value of a period stands for that period, rounded down to a multiple of its step. A value that reads as a speed reads as the speed of its period.
-- Assumes nothing.
use mathlib.Core.Path.{◌≡◌, refl, sym, ap, ◌∙◌}
use mathlib.Core.Logic.{⊎_elim}
use mathlib.Core.Bool.{Bool, false, not, ◌&&◌, ◌||◌}
use Prim.Native.Nat.{ℕ, ◌*◌, ◌/◌, ◌%◌, ◌^◌, ◌<◌}
use native.Mathlib.Nat.{mod-eq_of_lt, mod-lt}
use native.Mathlib.Omega.{arith}
use lib.Dec.{eqb}
use lib.Pow.{pow_mono, pow_pos, split}
use borrow.Author.Tests.{eq-eqb, eqb-false, ne_eqb}
use Rattle.dshot_reply_spec.proofs.Cases.{equal_or_not, lt-or-ge}
use Rattle.dshot_reply_spec.proofs.Choice.{not-both, not_first, not-second}
use Rattle.dshot_reply_spec.proofs.Period.{period-small, period-value}
use Rattle.dshot_reply_spec.specs.Answer.{given}
use Rattle.dshot_reply_spec.specs.Kind.{kind_number}
use Rattle.dshot_reply_spec.specs.Period.{SmallestExponent, period_value, scaled}
use Rattle.dshot_reply_spec.specs.Value.{erpm, period_of, reading_of, reply_of, speed_of, speed_value, step_of}
use Rattle.dshot_reply_spec.specs.ValuePeriod.{Period, RoundedDown, period_reply, value_period}

-- ---- 1: the value of a period

-- the period and the step of a value
abbrev told : ℕ → Period
told v = record { microseconds = period_of v; step = step_of v }

module _ (p v : ℕ) (r : SmallestExponent p v) where
  exponent-back : v / 512 ≡ r.exponent
  exponent-back = omega (arith, r.value, r.leaves)

  left_back : v % 512 ≡ p / step_of v
  left_back = rw exponent-back (omega (arith, r.value, r.leaves))

  rounded : RoundedDown p (told v)
  rounded =
      let back = split p (v / 512) in
      let rest = mod-lt p (pow_pos (v / 512)) in
      let same : period_of v ≡ p / step_of v * step_of v = ap (λ (n : ℕ). n * step_of v) left_back in
      record { multiple = same; least = omega arith; most = omega arith }

  -- the value of a period above 0 stands for a period above 0: if the exponent is above 0, the period is above 511 and its step at most 128
  told-some : 0 < p → period_of v ≡ 0 → ⊥
  told-some some none =
      let below : p < step_of v = omega (arith, rounded.most) in
      let small : p < 2 ^ r.exponent = rw exponent-back at below in
      ⊎_elim
      (λ more. omega (arith, r.smallest 0 more, pow_mono {i = r.exponent} {j = 7} r.small))
      (λ zero. omega (arith, pow_mono {i = r.exponent} {j = 0} zero))
      (lt-or-ge 0 r.exponent)

-- a period that has a value is above 0
valued-some : (p v : ℕ) → period_value p ≡ given v → 0 < p
unfolding period_value
valued-some p v e = let n = eqb-false p 0 (not_first (eqb p 0) e (λ f. not-both f refl)).0 in omega arith

-- 1: if the value of a period is not 0xFFF (at rest), it stands for that period, rounded down to a multiple of its step
pub period-kept : (p v : ℕ) → period_value p ≡ given v → (v ≡ 0xfff → ⊥) → (q : Period) × (value_period v ≡ given q) × RoundedDown p q
unfolding value_period
period-kept p v e n =
    let r = period-value p v e in
    let some = told-some p v r (valued-some p v e) in
    (told v, rw (mod-eq_of_lt (period-small p v e), ne_eqb v 0xfff n, ne_eqb (period_of v) 0 some), rounded p v r)

-- an example: 1234 microseconds are sent as 0x534, which stands for 1232, in steps of 4
pub period-1234 : (period_value 1234 ≡ given 0x534) × (value_period 0x534 ≡ given (record { microseconds = 1232; step = 4 }))
unfolding period_value scaled value_period
period-1234 = (refl, refl)

-- ---- 2 and 3: the speed of a value

-- the speed of a value is that of its period
by-period : (v : ℕ) → speed_value (v % 4096) ≡ period_reply v
unfolding speed_value speed_of value_period
by-period v =
    let u = v % 4096 in
    ⊎_elim
    (λ rests. rw (eq-eqb u 0xfff rests))
    (λ turns. ⊎_elim
    (λ none. rw (ne_eqb u 0xfff turns, eq-eqb (period_of u) 0 none))
    (λ some. simp (ne_eqb u 0xfff turns, ne_eqb (period_of u) 0 some))
    (equal_or_not (period_of u) 0))
    (equal_or_not u 0xfff)

-- 2: with EDT off, each value except the acknowledgement reads as its period says: at rest, refused with 11 (zero period), or a speed
pub value-speed : (v : ℕ) → (v % 4096 ≡ 0xe00 → ⊥) → reply_of v false ≡ period_reply v
unfolding reply_of
value-speed v n = rw (ne_eqb (v % 4096) 0xe00 n) (by-period v)

-- a typed reading is no speed
typed-other : (half d n : ℕ) → reading_of half d ≡ erpm n → ⊥
unfolding reading_of
typed-other half d n e =
    let a = not_first (eqb half 1) e (λ f. omega (arith, ap kind_number f)) in
    let b = not_first (eqb half 2) a.1 (λ f. omega (arith, ap kind_number f)) in
    let c = not_first (eqb half 3) b.1 (λ f. omega (arith, ap kind_number f)) in
    let f = (not_first (eqb half 7) c.1 (λ f. omega (arith, ap kind_number f))).1 in
    let z : ◌≡◌ {A = ℕ} 0 1 = cc in
    omega arith

-- 3: the same holds for each value that reads as a speed, with EDT off or on
pub speed-told : (v : ℕ) (extended : Bool) (n : ℕ) → reply_of v extended ≡ given (erpm n) → period_reply v ≡ given (erpm n)
unfolding reply_of
speed-told v extended n e =
    let u = v % 4096 in
    let a = not_first (not extended && eqb u 0xe00) e (λ f. let z : ◌≡◌ {A = ℕ} 0 1 = cc in omega arith) in
    let b = not-second (not extended || (eqb (u / 256 % 2) 1 || eqb (u / 256) 0)) a.1
    (λ f. let g : reading_of (u / 512) (u % 256) ≡ erpm n = cc in typed-other (u / 512) (u % 256) n g) in
    sym (by-period v) ∙ b.1
