-- If a choice or a chain of steps ends in `given`: how its tests came out, and what each step was given.
-- Assumes nothing.
use mathlib.Core.Path.{◌≡◌, refl}
use mathlib.Core.Logic.{◌⊎◌, inl, inr}
use mathlib.Core.Bool.{Bool, true, false}
use Prim.Native.Nat.{ℕ}
use Rattle.dshot_reply_spec.proofs.Choice.{not-both, not_first, not-second}
use Rattle.dshot_reply_spec.specs.Answer.{Answer, given, pick, refused, and_then}

-- a choice is its first answer or its second, and its test says which
pub either-given : {A : Type 0} {x y z : A} (b : Bool) → pick b x y ≡ z → ((b ≡ true) × (x ≡ z)) ⊎ ((b ≡ false) × (y ≡ z))
either-given true e = inl (refl, e)
either-given false e = inr (refl, e)

-- if its first answer is a refusal, its test fails
pub second-given : {A : Type 0} {a : Answer A} {x : A} (n : ℕ) (b : Bool) → pick b (refused n) a ≡ given x → (b ≡ false) × (a ≡ given x)
second-given n b e = not_first b e (λ f. not-both f refl)

-- if its second answer is a refusal, its test holds
pub first-given : {A : Type 0} {a : Answer A} {x : A} (n : ℕ) (b : Bool) → pick b a (refused n) ≡ given x → (b ≡ true) × (a ≡ given x)
first-given n b e = not-second b e (λ f. not-both f refl)

-- if the next step gives something, it was given something
pub then-given : {A B : Type 0} (a : Answer A) (next : A → Answer B) {y : B} → and_then a next ≡ given y
    → (x : A) × (a ≡ given x) × (next x ≡ given y)
then-given (given x) next e = (x, refl, e)
then-given (refused n) next e = absurd (not-both e refl)
