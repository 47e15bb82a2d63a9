-- Outcomes that were read or broke, and what holds of both answers of a choice.
-- Assumes nothing.
use mathlib.Core.Path.{◌≡◌, refl}
use mathlib.Core.Bool.{Bool, true, false}
use Prim.Native.Nat.{ℕ}
use native.Mathlib.Omega.{arith}
use Rattle.dshot_reply_spec.specs.Answer.{pick}
use Rattle.dump_spec.specs.Signal.{Outcome, read, broke, onward}

-- what holds of both answers of a choice, by its test, holds of the choice
pub chosen : {A : Type 0} (P : A → Type 0) (b : Bool) (x y : A) → (b ≡ true → P x) → (b ≡ false → P y) → P (pick b x y)
chosen P true x y f g = f refl
chosen P false x y f g = g refl

-- an outcome is not read and broken at once
pub read-or-broke : {A : Type 0} {o : Outcome A} {x : A} {cause place : ℕ} → o ≡ read x → o ≡ broke cause place → ⊥
read-or-broke e f = let z : ◌≡◌ {A = ℕ} 0 1 = cc in omega arith

-- if the next step reads something, it was given something read
pub onward-read : {A B : Type 0} (o : Outcome A) (next : A → Outcome B) {y : B} → onward o next ≡ read y
    → (x : A) × (o ≡ read x) × (next x ≡ read y)
onward-read (read x) next e = (x, refl, e)
onward-read (broke cause place) next e = absurd (read-or-broke e refl)
