-- If a choice is not one of its two answers, it is the other, and its test says so.
-- Assumes nothing.
use mathlib.Core.Path.{◌≡◌, refl}
use mathlib.Core.Bool.{Bool, true, false}
use Prim.Native.Nat.{ℕ}
use native.Mathlib.Omega.{arith}
use Rattle.dshot_reply_spec.specs.Answer.{Answer, given, pick, refused}

-- an answer is not given and refused at once
pub not-both : {A : Type 0} {a : Answer A} {x : A} {n : ℕ} → a ≡ given x → a ≡ refused n → ⊥
not-both e f = let z : ◌≡◌ {A = ℕ} 0 1 = cc in omega arith

-- if it is not the first, its test fails
pub not_first : {A : Type 0} {x y z : A} (b : Bool) → pick b x y ≡ z → (x ≡ z → ⊥) → (b ≡ false) × (y ≡ z)
not_first true e n = absurd (n e)
not_first false e n = (refl, e)

-- if it is not the second, its test holds
pub not-second : {A : Type 0} {x y z : A} (b : Bool) → pick b x y ≡ z → (y ≡ z → ⊥) → (b ≡ true) × (x ≡ z)
not-second true e n = (refl, e)
not-second false e n = absurd (n e)
