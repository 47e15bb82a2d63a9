-- What a call returns for an answer, and what it leaves in the buffers that it is lent.
-- Assumes nothing.
use mathlib.Core.Path.{◌≡◌, sym, ap, ◌∙◌}
use mathlib.Core.List.{List}
use Prim.Native.Nat.{ℕ}
use Rattle.dshot_reply_spec.specs.Answer.{Answer, given, refused, refusal_number, filled}

-- a refusal returns its number and leaves a buffer as it was
pub refused-so : {A : Type 0} {a : Answer A} {n : ℕ} (slots : A → List ℕ) (out : List ℕ) → a ≡ refused n → (n ≡ refusal_number a) × (out ≡ filled slots out a)
refused-so slots out e = (sym (ap refusal_number e), sym (ap (filled slots out) e))

-- what is given returns 0 and is put into the buffer
pub given_so : {A : Type 0} {a : Answer A} {x : A} (slots : A → List ℕ) (out : List ℕ) {exit : List ℕ} → a ≡ given x → exit ≡ slots x
    → (0 ≡ refusal_number a) × (exit ≡ filled slots out a)
given_so slots out e f = (sym (ap refusal_number e), f ∙ sym (ap (filled slots out) e))

-- the same of two buffers
pub refused-both : {A : Type 0} {a : Answer A} {n : ℕ} (f g : A → List ℕ) (xs ys : List ℕ) → a ≡ refused n
    → (n ≡ refusal_number a) × ((xs ≡ filled f xs a) × (ys ≡ filled g ys a))
refused-both f g xs ys e = ((refused-so f xs e).0, ((refused-so f xs e).1, (refused-so g ys e).1))

pub given_both : {A : Type 0} {a : Answer A} {x : A} (f g : A → List ℕ) (xs ys : List ℕ) {left right : List ℕ} → a ≡ given x → left ≡ f x → right ≡ g x
    → (0 ≡ refusal_number a) × ((left ≡ filled f xs a) × (right ≡ filled g ys a))
given_both f g xs ys e h k = ((given_so f xs e h).0, ((given_so f xs e h).1, (given_so g ys e k).1))
