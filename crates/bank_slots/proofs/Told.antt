-- An answer in its slots: what they hold after the event, the number of orders, the two lists of orders and zeros are written one after another.
-- Assumes nothing.
use Rattle.std.proofs.Common.{◌≡◌, ℕ, zero, suc, ◌+◌, ◌-◌, ◌<◌, ◌≤◌, List, [], ◌∷◌, ◌++◌, length, get_or, set, take, drop, replicate, refl, sym, ap, ◌∙◌, arith, append_assoc, append-nil, add-zero, length-drop, length-take, length-set, drop_of_length-le}
use borrow.Rule.Slice.PartMut.{mid_of, put_mid}
use Rattle.bank_slots_spec.specs.Memory.{write}
use Rattle.bank_slots_spec.specs.Parts.{slot_rows}
use Rattle.bank_slots_spec.proofs.MemoryLaws.{length-write}
use Rattle.bank_slots_spec.proofs.FillLaws.{filled-to}

-- one more value behind the first i
pub write-more : (vs xs : List ℕ) (k i : ℕ) → i < length vs → set (write (slot_rows k (take i vs)) xs) (k + i) (get_or vs i 0) ≡ write (slot_rows k (take (i + 1) vs)) xs
write-more [] xs k i h = absurd (omega arith)
write-more (v ∷ vs) xs k zero h = ap (λ (j : ℕ). set xs j v) (add-zero k)
write-more (v ∷ vs) xs k (suc i) h =
    let place : k + suc i ≡ k + 1 + i = omega arith in
    let more : suc i + 1 ≡ suc (i + 1) = omega arith in
    ap (λ (j : ℕ). set (write (slot_rows (k + 1) (take i vs)) (set xs k v)) j (get_or vs i 0)) place
    ∙ write-more vs (set xs k v) (k + 1) i (omega arith)
    ∙ sym (ap (λ (j : ℕ). write (slot_rows k (take j (v ∷ vs))) xs) more)

-- the first two slots
first-two : (out : List ℕ) (event count : ℕ) → 2 ≤ length out → take 2 (set (set out 0 event) 1 count) ≡ event ∷ count ∷ []
first-two [] event count h = absurd (omega arith)
first-two (x ∷ []) event count h = absurd (omega arith)
first-two (x ∷ y ∷ out) event count h = refl

-- the four parts of an answer, one behind the other
one-behind : (event count : ℕ) (first then rest : List ℕ) → (((event ∷ count ∷ []) ++ first) ++ then) ++ (rest ++ []) ≡ event ∷ count ∷ (first ++ (then ++ rest))
one-behind event count first then rest =
    ap (λ (l : List ℕ). (event ∷ count ∷ (first ++ then)) ++ l) (append-nil rest) ∙ ap (λ (l : List ℕ). event ∷ count ∷ l) (append_assoc first then rest)

module _ (out first then : List ℕ) (event count : ℕ) {n : ℕ} (long : length out ≡ n) (fits : 2 + length first + length then ≤ n) where
  abbrev end : ℕ
  end = 2 + length first + length then

  -- the slots with the event and the number, after the first list, and after both
  abbrev start : List ℕ
  start = set (set out 0 event) 1 count

  abbrev one : List ℕ
  one = write (slot_rows 2 first) start

  abbrev two : List ℕ
  two = write (slot_rows (2 + length first) then) one

  pub told : {a b z : List ℕ} → a ≡ one → b ≡ write (slot_rows (2 + length first) then) a → z ≡ replicate (length (mid_of end (length b - end) b)) 0
      → put_mid end (length b - end) b z ≡ event ∷ count ∷ (first ++ (then ++ replicate (n - end) 0))
  told {a} {b} {z} p q r =
      let e : b ≡ two = q ∙ ap (write (slot_rows (2 + length first) then)) p in
      let size_one : length one ≡ n = length-write (slot_rows 2 first) start ∙ simp length-set long in
      let size : length b ≡ n = ap length e ∙ length-write (slot_rows (2 + length first) then) one ∙ size_one in
      let front : take end b ≡ ((event ∷ count ∷ []) ++ first) ++ then =
      ap (λ (l : List ℕ). take end l) e
      ∙ filled-to then one (2 + length first) (omega arith)
      ∙ ap (λ (l : List ℕ). l ++ then) (filled-to first start 2 (simp length-set (omega arith)) ∙ ap (λ (l : List ℕ). l ++ first) (first-two out event count (omega arith))) in
      let zeros : length (mid_of end (length b - end) b) ≡ n - end = simp (length-take, length-drop) (omega arith) in
      let none : drop (length b - end) (drop end b) ≡ [] = drop_of_length-le (drop end b) (omega (arith, length-drop end b)) in
      let rest : z ≡ replicate (n - end) 0 = r ∙ ap (λ (k : ℕ). replicate k 0) zeros in
      (λ j. front j ++ (rest j ++ none j)) ∙ one-behind event count first then (replicate (n - end) 0)
