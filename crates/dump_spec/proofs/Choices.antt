-- Tests that came out one way, and words that are the same.
-- Assumes nothing.
use mathlib.Core.Path.{◌≡◌, refl, sym, ◌∙◌}
use mathlib.Core.Logic.{◌⊎◌, inl, inr}
use mathlib.Core.Bool.{Bool, true, false, true≢false}
use mathlib.Core.List.{[], ◌∷◌}
use lib.Dec.{eqb}
use borrow.Author.Tests.{eqb-true, eq-eqb}
use Rattle.dshot_reply_spec.specs.Answer.{pick}
use Rattle.dump_spec.specs.Words.{Word, same}

-- a value is what a settled test picks
pub on : {A : Type 0} (x y : A) {b : Bool} → b ≡ true → pick b x y ≡ x
on x y e = rw e

pub off : {A : Type 0} (x y : A) {b : Bool} → b ≡ false → pick b x y ≡ y
off x y e = rw e

pub either : (b : Bool) → (b ≡ true) ⊎ (b ≡ false)
either true = inl refl
either false = inr refl

pub both : (x y : Bool) → pick x y false ≡ true → (x ≡ true) × (y ≡ true)
both true y e = (refl, e)
both false y e = absurd (true≢false (sym e))

pub same-eq : (w v : Word) → same w v ≡ true → w ≡ v
same-eq [] [] e = refl
same-eq [] (b ∷ v) e = absurd (true≢false (sym e))
same-eq (a ∷ w) [] e = absurd (true≢false (sym e))
same-eq (a ∷ w) (b ∷ v) e =
    let h = both (eqb a b) (same w v) e in
    let p = eqb-true a b h.0 in
    let q = same-eq w v h.1 in
    λ i. p i ∷ q i

pub same_refl : (w : Word) → same w w ≡ true
same_refl [] = refl
same_refl (b ∷ w) = on (same w w) false (eq-eqb b b refl) ∙ same_refl w
