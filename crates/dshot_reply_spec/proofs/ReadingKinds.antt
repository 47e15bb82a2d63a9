-- Every reading of a value has one of the nine kinds, and a number of at most 600000. So its debug channel is 1 to 3.
-- Assumes nothing.
use Prim.{Unit}
use mathlib.Core.Path.{◌≡◌, refl, subst}
use mathlib.Core.Bool.{Bool, true, false, ◌||◌}
use Prim.Native.Nat.{ℕ, ◌+◌, ◌*◌, ◌-◌, ◌/◌, ◌%◌, ◌^◌, ◌≤◌, ◌<◌}
use native.Mathlib.Nat.{div-lt_iff_lt-mul}
use native.Mathlib.Omega.{arith}
use lib.Dec.{T, eqb, ltb, ltb→lt, lit<, lit≤}
use borrow.Author.Tests.{eqb-false}
use Rattle.dshot_reply_spec.proofs.Table.{at}
use Rattle.dshot_reply_spec.specs.Answer.{Answer, given, refused, pick}
use Rattle.dshot_reply_spec.specs.Refusals.{zero_period}
use Rattle.dshot_reply_spec.specs.Kind.{debug_kind, kind_number, reading_number}
use Rattle.dshot_reply_spec.specs.Value.{Reading, erpm, temp, volt, amp, debug, state, edt, reading_of, reply_of, speed_of, speed_value}

-- a reading that is given has such a kind and such a number
abbrev Small : Answer Reading → Type 0
Small (given r) = (kind_number r < 9) × (reading_number r ≤ 600000)
Small (refused n) = Unit {0}

-- what holds of both answers of a choice, by its test, holds of the choice
chosen : {A : Type 0} (P : A → Type 0) (b : Bool) (x y : A) → (b ≡ true → P x) → (b ≡ false → P y) → P (pick b x y)
chosen P true x y f g = f refl
chosen P false x y f g = g refl

-- ---- speeds: that of a period of 1 microsecond is the largest

period-small : (p : ℕ) → (p ≡ 0 → ⊥) → (600000 + p / 2) / p ≤ 600000
period-small p n = let l = (div-lt_iff_lt-mul {k = p} {x = 600000 + p / 2} {y = 600001} (omega arith)).1 (omega arith) in omega arith

speed-small : (v : ℕ) → Small (speed_value v)
unfolding speed_value speed_of
speed-small v =
    let p = v % 512 * 2 ^ (v / 512) in
    chosen Small (eqb v 0xfff) _ _ (λ e. (lit< tt, lit≤ tt))
    (λ e. chosen Small (eqb p 0) (refused zero_period) (given (erpm ((600000 + p / 2) / p))) (λ f. tt)
    (λ f. (lit< tt, period-small p (eqb-false p 0 f))))

-- ---- typed readings: the kind by the type nibble, and a number of eight bits

typed : ℕ → ℕ → Bool
typed d t = pick (eqb (t % 2) 1 || eqb t 0) true (ltb (kind_number (reading_of (t / 2) d)) 9)

all_typed : (d t : ℕ) → t < 16 → T (typed d t)
unfolding typed reading_of debug_kind
all_typed d t h = at (typed d) 16 tt t h

typed-number : (half d : ℕ) → reading_number (reading_of half d) ≡ d
unfolding reading_of
typed-number half d =
    let P : Reading → Type 0 = λ r. reading_number r ≡ d in
    chosen P (eqb half 1) (temp d) _ (λ e. refl)
    (λ e. chosen P (eqb half 2) (volt d) _ (λ e. refl)
    (λ e. chosen P (eqb half 3) (amp d) _ (λ e. refl)
    (λ e. chosen P (eqb half 7) (state d) (debug (half - 3) d) (λ e. refl) (λ e. refl))))

-- ---- both

reply-small : (v : ℕ) (extended : Bool) → Small (reply_of v extended)
unfolding reply_of typed
reply-small v true =
    let u = v % 4096 in
    let half : u / 512 ≡ u / 256 / 2 = omega arith in
    let r = reading_of (u / 256 / 2) (u % 256) in
    rw half
    (chosen Small (eqb (u / 256 % 2) 1 || eqb (u / 256) 0) (speed_value u) (given r) (λ e. speed-small u)
    (λ e. (
      ltb→lt (kind_number r) 9 (rw e at (all_typed (u % 256) (u / 256) (omega arith))),
      rw (typed-number (u / 256 / 2) (u % 256)) (omega arith),
    )))
reply-small v false = chosen Small (eqb (v % 4096) 0xe00) (given edt) _ (λ e. (lit< tt, lit≤ tt)) (λ e. speed-small (v % 4096))

module _ (v : ℕ) (extended : Bool) (r : Reading) (e : reply_of v extended ≡ given r) where
  small : Small (given r)
  small = subst Small e (reply-small v extended)

  -- the kind of a reading that a value has is one of the nine
  pub kind-below : kind_number r < 9
  kind-below = small.0

  -- and no reading has a larger number than the speed of 0x001
  pub number-most : reading_number r ≤ 600000
  number-most = small.1
