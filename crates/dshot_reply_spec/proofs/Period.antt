-- The value of a period has document 01's smallest exponent, and no other value has it. Every period of 1 to 65535 microseconds has a value of
-- 12 bits.
-- Assumes nothing.
use mathlib.Core.Path.{◌≡◌, refl, sym, ap, subst, ◌∙◌}
use mathlib.Core.Bool.{Bool, true, false}
use mathlib.Core.Logic.{◌⊎◌, inl, inr, ⊎_elim}
use Prim.Native.Nat.{ℕ, zero, suc, ◌+◌, ◌*◌, ◌/◌, ◌^◌, ◌≤◌, ◌<◌}
use native.Mathlib.Nat.{div-one}
use native.Mathlib.Omega.{arith}
use lib.Dec.{eqb, leb, ltb}
use lib.Pow.{shr-shr}
use borrow.Author.Tests.{leb-false, leb-true, le-ltb, ltb-false, ne_eqb}
use Rattle.dshot_reply_spec.proofs.Cases.{lt-or-eq-or-gt, lt-or-ge}
use Rattle.dshot_reply_spec.proofs.Choice.{not-both, not_first}
use Rattle.dshot_reply_spec.proofs.PeriodLaws.{scaled-done}
use Rattle.dshot_reply_spec.specs.Answer.{given}
use Rattle.dshot_reply_spec.specs.Period.{SmallestExponent, period_value, scaled}

-- no exponent below e leaves at most 511
abbrev Short : ℕ → ℕ → Type 0
Short p e = (i : ℕ) → i < e → 511 < p / 2 ^ i

short-more : (p e : ℕ) → Short p e → 511 < p / 2 ^ e → Short p (e + 1)
short-more p e h more i l =
    ⊎_elim (h i) (λ g. let q : e ≡ i = omega arith in subst (λ (n : ℕ). 511 < p / 2 ^ n) q more) (lt-or-ge i e)

-- an exponent that leaves at most 511 where none below it does
ends-here : (k p e : ℕ) → e ≤ 7 → p / 2 ^ e ≤ 511 → Short p e → SmallestExponent p (scaled k e (p / 2 ^ e))
ends-here k p e h least short = record {
  exponent = e;
  small = h;
  value = scaled-done k e (p / 2 ^ e) least;
  leaves = omega arith;
  smallest = λ i l. omega (arith, short i l);
}

-- the scaling from an exponent on: it has times enough left
scaled-smallest : (k p e : ℕ) → p ≤ 65535 → e + k ≡ 7 → Short p e → SmallestExponent p (scaled k e (p / 2 ^ e))
unfolding scaled
scaled-smallest zero p e h q short =
    let seven : e ≡ 7 = omega arith in
    let least : p / 2 ^ e ≤ 511 = rw seven (omega arith) in
    ends-here zero p e (omega arith) least short
scaled-smallest (suc k) p e h q short =
    go (leb (p / 2 ^ e) 511) refl (λ more. scaled-smallest k p (e + 1) h (omega arith) (short-more p e short more))
  where
    go : (t : Bool) → leb (p / 2 ^ e) 511 ≡ t → (511 < p / 2 ^ e → SmallestExponent p (scaled k (e + 1) (p / 2 ^ (e + 1)))) → SmallestExponent p (scaled (suc k) e (p / 2 ^ e))
    go true b next = ends-here (suc k) p e (omega arith) (leb-true (p / 2 ^ e) 511 b) short
    go false b next = rw (b, shr-shr p e 1) (next (leb-false (p / 2 ^ e) 511 b))

-- the value of a period has the smallest exponent that leaves at most 511
pub period-value : (p v : ℕ) → period_value p ≡ given v → SmallestExponent p v
unfolding period_value
period-value p v e =
    let a = not_first (eqb p 0) e (λ f. not-both f refl) in
    let b = not_first (ltb 65535 p) a.1 (λ f. not-both f refl) in
    let same = b.1 in
    let q : scaled 7 0 p ≡ v = cc in
    subst (SmallestExponent p) (ap (scaled 7 0) (div-one p) ∙ q)
    (scaled-smallest 7 p 0 (ltb-false 65535 p b.0) refl (λ i l. absurd (omega arith)))

-- document 01's description fits no second value
pub one_value : (p v v' : ℕ) → SmallestExponent p v → SmallestExponent p v' → v ≡ v'
one_value p v v' a b = go (lt-or-eq-or-gt a.exponent b.exponent)
  where
    go : (a.exponent < b.exponent) ⊎ ((a.exponent ≡ b.exponent) ⊎ (b.exponent < a.exponent)) → v ≡ v'
    go (inl l) = absurd (omega (arith, b.smallest a.exponent l, a.leaves))
    go (inr (inl e)) = a.value ∙ ap (λ (n : ℕ). n * 512 + p / 2 ^ n) e ∙ sym b.value
    go (inr (inr l)) = absurd (omega (arith, a.smallest b.exponent l, b.leaves))

-- a period of 1 to 65535 has a value
pub period-given : (p : ℕ) → 0 < p → p ≤ 65535 → (v : ℕ) × (period_value p ≡ given v)
unfolding period_value
period-given p low high = (scaled 7 0 p, rw (ne_eqb p 0 (λ e. omega arith), le-ltb 65535 p high))

-- a value has 12 bits
pub period-small : (p v : ℕ) → period_value p ≡ given v → v < 4096
period-small p v e = let r = period-value p v e in omega arith
