-- What an exported call answers and leaves in its slots, for every number of slots and every content. If every slot of a list is set, the list is
-- what was stored.
-- Assumes nothing.
use Prim.Native.Nat.{ℕ, ◌+◌}
use mathlib.Core.Path.{◌≡◌, refl, sym, ap, ◌∙◌}
use mathlib.Core.List.{List, ◌++◌, append-nil}
use native.Mathlib.Omega.{arith}
use lib.ListN.{length, get_or, drop_of_length-le}
use lib.Seq.{ext_get_or, sets, sets-eq}
use borrow.Author.Tests.{eq-eqb, ne_eqb}
use Rattle.dshot_reply_spec.proofs.Answered.{refused-so}
use Rattle.dshot_reply_spec.specs.Answer.{Answer, given, refused, refusal_number, filled}
use Rattle.dshot_reply_spec.specs.Refusals.{wrong_length}
use Rattle.dshot_spec.proofs.Tabulated.{length-tabulate, get_d_tabulate}
use Rattle.dshot_spec.specs.Tabulate.{tabulate}
use Rattle.kuzhenga.specs.Slots.{asked}

-- every slot set, one after the other
pub all_set : (out xs : List ℕ) → length out ≡ length xs → sets out 0 xs ≡ xs
all_set out xs h =
    sets-eq xs out 0 (omega arith)
    ∙ ap (λ (l : List ℕ). xs ++ l) (drop_of_length-le out {i = 0 + length xs} (omega arith))
    ∙ append-nil xs

-- a call that asks for n slots and is lent another number of them
pub asked-not : {A : Type 0} (out : List ℕ) (n : ℕ) (a : Answer A) → (length out ≡ n → ⊥) → asked n out a ≡ refused wrong_length
unfolding asked
asked-not out n a h = rw (ne_eqb (length out) n h)

-- and one that is lent n
pub asked-so : {A : Type 0} (out : List ℕ) (n : ℕ) (a : Answer A) → length out ≡ n → asked n out a ≡ a
unfolding asked
asked-so out n a h = rw (eq-eqb (length out) n h)

-- a list by its entries
pub entries : (xs : List ℕ) (n : ℕ) → length xs ≡ n → tabulate n (λ i. get_or xs i 0) ≡ xs
entries xs n h =
    ext_get_or 0 (tabulate n (λ i. get_or xs i 0)) xs (length-tabulate (λ i. get_or xs i 0) n ∙ sym h)
    (λ i l. get_d_tabulate (λ k. get_or xs k 0) n i 0 (omega (arith, length-tabulate (λ (k : ℕ). get_or xs k 0) n)))

module _ {A : Type 0} (slots : A → List ℕ) (out : List ℕ) where
  -- the number and the slots at exit of a call that asks for n slots and then answers a
  abbrev pub Answers : ℕ → Answer A → ℕ → List ℕ → Type 0
  Answers n a r exit = (r ≡ refusal_number (asked n out a)) × (exit ≡ filled slots out (asked n out a))

  pub wrong-length : {n : ℕ} (a : Answer A) → (length out ≡ n → ⊥) → Answers n a 13 out
  wrong-length {n} a h = refused-so slots out (asked-not out n a h)

  -- an answer that is put into the slots is the call's
  pub passed_on : {n r : ℕ} {a b : Answer A} {exit : List ℕ} → length out ≡ n → b ≡ a
      → r ≡ refusal_number b → exit ≡ filled slots out b → Answers n a r exit
  passed_on {n} {a = a} h e f g =
      let same = e ∙ sym (asked-so out n a h) in
      (f ∙ ap refusal_number same, g ∙ ap (filled slots out) same)

  -- what was given, with every slot set
  pub done : {n : ℕ} {a : Answer A} {x : A} → length out ≡ n → given x ≡ a → length (slots x) ≡ n
      → Answers n a 0 (sets out 0 (slots x))
  done {x = x} h e l = passed_on h e refl (all_set out (slots x) (h ∙ sym l))
