-- The tests of lists that the code makes are those of the definitions.
-- Assumes nothing.
use Rattle.std.specs.Prelude.{Some, None, cond, if◌then◌else◌}
use Rattle.std.proofs.Common.{◌≡◌, ℕ, suc, ◌+◌, ◌<◌, ltb, length, Bool, true, false, not, ◌||◌, List, [], ◌∷◌, refl, sym, ap, ◌∙◌, arith}
use borrow.Author.Tests.{ltb-true}
use Rattle.std.specs.List as First
use Rattle.std.specs.List.{list_any, position_or_len}
use Rattle.dshot_bank_spec.specs.Lanes.{any, position}

-- whether some entry passes
pub any_is : {A : Type 0} (p : A → Bool) (xs : List A) → list_any p xs ≡ any p xs
unfolding any
any_is p [] = refl
any_is {A} p (x ∷ xs) = at (p x) (any_is p xs)
  where
    at : (b : Bool) → list_any p xs ≡ any p xs → (b || list_any p xs) ≡ (if b then true else any p xs)
    at true e = refl
    at false e = e

-- the place of the first that passes
pub position_is : {A : Type 0} (p : A → Bool) (xs : List A) → position_or_len p xs ≡ position p xs
unfolding position
position_is p [] = refl
position_is {A} p (x ∷ xs) = at (p x) (position_is p xs)
  where
    at : (b : Bool) → position_or_len p xs ≡ position p xs → (if not b then 1 + position_or_len p xs else 0) ≡ (if b then 0 else suc (position p xs))
    at true e = refl
    at false e = omega (arith, e)

-- a place that is found
pub placed : {A : Type 0} (p : A → Bool) (xs : List A) (n : ℕ) → Some n ≡ First.position p xs → (n ≡ position p xs) × (n < length xs)
placed p xs n e = at (ltb (position_or_len p xs) (length xs)) refl e
  where
    at : (b : Bool) → ltb (position_or_len p xs) (length xs) ≡ b → Some n ≡ cond b (Some (position_or_len p xs)) None → (n ≡ position p xs) × (n < length xs)
    at true t h = let k : n ≡ position_or_len p xs = cc in (k ∙ position_is p xs, omega (arith, ltb-true _ _ t))
    at false t h = cc

-- no place is found
pub unplaced : {A : Type 0} (p : A → Bool) (xs : List A) → None ≡ First.position p xs → ltb (position p xs) (length xs) ≡ false
unplaced p xs e = at (ltb (position_or_len p xs) (length xs)) refl e
  where
    at : (b : Bool) → ltb (position_or_len p xs) (length xs) ≡ b → None ≡ cond b (Some (position_or_len p xs)) None → ltb (position p xs) (length xs) ≡ false
    at true t h = cc
    at false t h = ap (λ (n : ℕ). ltb n (length xs)) (sym (position_is p xs)) ∙ t
