-- Answers that are made in steps: bytes are refused with one number only.
-- Assumes nothing.
use mathlib.Core.Path.{◌≡◌, refl}
use mathlib.Core.Bool.{Bool, true, false}
use Prim.Native.Nat.{ℕ}
use native.Mathlib.Omega.{arith}
use Rattle.dshot_reply_spec.specs.Answer.{Answer, given, refused, and_then, pick, is_given}
use Rattle.dshot_reply_spec.specs.Refusals.{not_acapture}
use Rattle.dshot_reply_spec.proofs.Choice.{not-both}

pub same-given : {A : Type 0} {x y : A} → given x ≡ given y → x ≡ y
same-given e = cc

-- what is refused before a step that refuses nothing was refused so
pub then-refused : {A B : Type 0} {n : ℕ} (a : Answer A) (f : A → B) → and_then a (λ x. given (f x)) ≡ refused n → a ≡ refused n
then-refused (given x) f e = absurd (not-both refl e)
then-refused (refused m) f e = cc

-- an answer is given, or refused as bytes are that hold no file
pub data Read {A : Type 0} : Answer A → Type 0 where
  found : (x : A) → Read (given x)
  lacking : Read (refused not_acapture)

pub read-then : {A B : Type 0} {a : Answer A} (f : A → Answer B) → Read a → ((x : A) → Read (f x)) → Read (and_then a f)
read-then f (found x) h = h x
read-then f lacking h = lacking

pub read-pick : {A : Type 0} {a : Answer A} (t : Bool) → Read a → Read (pick t (refused not_acapture) a)
read-pick true r = lacking
read-pick false r = r

-- what is not given is refused so
pub not-given : {A : Type 0} {a : Answer A} → Read a → is_given a ≡ false → a ≡ refused not_acapture
not-given (found x) e = let z : ◌≡◌ {A = ℕ} 0 1 = cc in absurd (omega arith)
not-given lacking e = refl

pub same-refusal : {A : Type 0} (a : Answer A) (n : ℕ) → Read a → a ≡ refused n → n ≡ not_acapture
same-refusal a n (found x) e = absurd (not-both refl e)
same-refusal a n lacking e = cc
