-- The samples of a file, one at a time: they are found to be there, and then filled into slots.
-- Assumes nothing.
use mathlib.Core.Path.{◌≡◌, refl, sym, ap, ◌∙◌}
use mathlib.Core.Bool.{true, false}
use mathlib.Core.List.{List, [], ◌∷◌, ◌++◌, append_assoc, append-nil}
use Prim.Native.Nat.{ℕ, zero, suc, ◌+◌, ◌-◌, ◌≤◌, ◌<◌}
use native.Mathlib.Nat.{sub-zero}
use native.Mathlib.Omega.{arith}
use lib.Dec.{eqb}
use lib.ListN.{length, take, set, length-set}
use lib.Seq.{take_all}
use borrow.Author.Tests.{ne_eqb}
use Rattle.std.specs.Prelude.{Option, Some, None, IsSome}
use Rattle.std.specs.Borrow.{Bor}
use Rattle.std.proofs.lemmas.List.{take_more_set}
use Rattle.dshot_reply_spec.specs.Answer.{Answer, given, refused, and_then, is_given}
use Rattle.dshot_reply_spec.specs.Refusals.{not_acapture}
use Rattle.capture_file.specs.Groups.{Headed, headed, read_number, read_all}
use Rattle.capture_file.specs.FileSteps.{number_answer}

-- ---- whether samples are there

same_known : (x : ℕ) (a : Answer (List ℕ)) → is_given (and_then a (λ xs. given (x ∷ xs))) ≡ is_given a
same_known x (given xs) = refl
same_known x (refused n) = refl

-- the first of n numbers, and whether the others are there
pub none-known : (n : ℕ) (s : List ℕ) → 0 < n → refused not_acapture ≡ read_number s → is_given (read_all n s) ≡ false
none-known zero s h e = absurd (omega arith)
none-known (suc n) s h e = rw (← e)

pub more-known : (n i : ℕ) (s : List ℕ) (x : ℕ) (t : List ℕ) → i < n → given (headed x t) ≡ read_number s
    → is_given (read_all (n - i) s) ≡ is_given (read_all (n - (i + 1)) t)
more-known n i s x t h e = go (n - i) (n - (i + 1)) (omega arith)
  where
    go : (k m : ℕ) → k ≡ m + 1 → is_given (read_all k s) ≡ is_given (read_all m t)
    go zero m h = absurd (omega arith)
    go (suc k) m h = let same : k ≡ m = omega arith in rw (← e, same) (same_known x (read_all m t))

-- no number is left
pub none-left : (n : ℕ) (s : List ℕ) → n ≡ 0 → is_given (read_all n s) ≡ eqb (length s) 0
none-left zero [] h = refl
none-left zero (b ∷ s) h = sym (ne_eqb (length (b ∷ s)) 0 (λ z. omega arith))
none-left (suc n) s h = absurd (omega arith)

-- for the goals of `file::are_samples`
pub ruleset are_samples_cases = (none-known, more-known, none-left)

-- ---- samples into slots

then-empty : (a : Answer (List ℕ)) → a ≡ and_then a (λ ys. given ([] ++ ys))
then-empty (given xs) = refl
then-empty (refused n) = refl

then-more : (a : Answer (List ℕ)) (xs : List ℕ) (x : ℕ)
    → and_then (and_then a (λ ys. given (x ∷ ys))) (λ ys. given (xs ++ ys)) ≡ and_then a (λ ys. given ((xs ++ (x ∷ [])) ++ ys))
then-more (given ys) xs x = simp append_assoc
then-more (refused n) xs x = refl

-- the first of n numbers, before the others
first-then : (n m : ℕ) (s xs : List ℕ) (r : Headed) → n ≡ m + 1 → given r ≡ read_number s
    → and_then (read_all n s) (λ ys. given (xs ++ ys)) ≡ and_then (read_all m r.rest) (λ ys. given ((xs ++ (r.number ∷ [])) ++ ys))
first-then zero m s xs r h e = absurd (omega arith)
first-then (suc n) m s xs r h e = let same : n ≡ m = omega arith in rw (← e, same) (then-more (read_all m r.rest) xs r.number)

no-more : (n : ℕ) (s xs : List ℕ) → n ≡ 0 → is_given (read_all n s) ≡ true → and_then (read_all n s) (λ ys. given (xs ++ ys)) ≡ given xs
no-more zero [] xs h k = ap given (append-nil xs)
no-more zero (b ∷ s) xs h k = absurd (cc)
no-more (suc n) s xs h k = absurd (omega arith)

-- The numbers that the bytes are known to be are those in the first i slots, and then those that the bytes s are.
pub record Filling (bytes slots : List ℕ) (i : ℕ) (s : List ℕ) : Type 0 where
  pub known : is_given (read_all (length slots - i) s) ≡ true
  pub whole : read_all (length slots) bytes ≡ and_then (read_all (length slots - i) s) (λ ys. given (take i slots ++ ys))

pub filling-start : (bytes slots : List ℕ) → is_given (read_all (length slots) bytes) ≡ true → Filling bytes slots 0 bytes
filling-start bytes slots e = record { known = rw sub-zero e; whole = rw sub-zero (then-empty (read_all (length slots) bytes)) }

module _ {bytes slots : List ℕ} {i : ℕ} {s : List ℕ} (f : Filling bytes slots i s) where
  -- each number was found to be there
  pub filling-some : (o : Option (ℕ × Bor (List ℕ))) → i < length slots → number_answer o ≡ read_number s → IsSome o
  filling-some (Some p) h e = refl
  filling-some None h e = absurd (cc (f.known, none-known (length slots - i) s (omega arith) e))

  -- a number that was read goes into the next slot
  pub filling-more : (r : Headed) → i < length slots → given r ≡ read_number s → Filling bytes (set slots i r.number) (i + 1) r.rest
  filling-more r h e =
      let left : length slots - i ≡ length slots - (i + 1) + 1 = omega arith in
      record {
        known = rw length-set (sym (more-known (length slots) i s r.number r.rest h e) ∙ f.known);
        whole = rw (length-set, take_more_set slots i r.number h) (f.whole ∙ first-then (length slots - i) _ s (take i slots) r left e);
      }

  pub filling-end : length slots ≤ i → read_all (length slots) bytes ≡ given slots
  filling-end h = rw (take_all i slots h) at (f.whole ∙ no-more (length slots - i) s (take i slots) (omega arith) f.known)

-- for the goals of `file::fill_samples`
pub ruleset fill_cases = (filling-start, filling-some, filling-end)
