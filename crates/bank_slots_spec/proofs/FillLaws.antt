-- Slots that are written one after another: what they hold then, for any list of values.
-- Assumes nothing.
use mathlib.Core.Path.{◌≡◌, ◌∙◌, refl, sym, ap}
use mathlib.Core.List.{List, [], ◌∷◌, ◌++◌, append-nil}
use Prim.Native.Nat.{ℕ, zero, suc, ◌+◌, ◌<◌, ◌≤◌}
use native.Mathlib.Numerals.{add-one}
use native.Mathlib.Omega.{arith}
use lib.ListN.{length, set, take, drop, length-append, drop_of_length-le}
use lib.Seq.{ext_get_or, sets, sets-eq, take_all, take_at, length-take-le}
use Rattle.dshot_spec.specs.Tabulate.{tabulate}
use Rattle.dshot_spec.proofs.Tabulated.{length-tabulate, get_d_tabulate}
use Rattle.bank_slots_spec.specs.Memory.{at, write}
use Rattle.bank_slots_spec.specs.Parts.{slot_rows}
use Rattle.bank_slots_spec.proofs.MemoryLaws.{length-write}

write-sets : (vs xs : List ℕ) (k : ℕ) → write (slot_rows k vs) xs ≡ sets xs k vs
write-sets [] xs k = refl
write-sets (v ∷ vs) xs k = write-sets vs (set xs k v) (k + 1) ∙ ap (λ (j : ℕ). sets (set xs k v) j vs) (add-one k)

-- values from slot k on: the slots before them, and they
pub filled-to : (vs xs : List ℕ) (k : ℕ) → k + length vs ≤ length xs → take (k + length vs) (write (slot_rows k vs) xs) ≡ take k xs ++ vs
filled-to vs xs k h =
    ap (λ (l : List ℕ). take (k + length vs) l) (write-sets vs xs k ∙ sets-eq vs xs k h)
    ∙ take_at (take k xs ++ vs) (drop (k + length vs) xs) (k + length vs) (length-append (take k xs) vs ∙ ap (λ (n : ℕ). n + length vs) (length-take-le k xs (omega arith)))

-- values up to the last slot
pub filled-from : (vs xs : List ℕ) (k : ℕ) → length xs ≡ k + length vs → write (slot_rows k vs) xs ≡ take k xs ++ vs
filled-from vs xs k h =
    sym (take_all (k + length vs) (write (slot_rows k vs) xs) (omega (arith, length-write (slot_rows k vs) xs)))
    ∙ filled-to vs xs k (omega arith)

-- a value for every slot
pub filled : (vs xs : List ℕ) → length xs ≡ length vs → write (slot_rows 0 vs) xs ≡ vs
filled vs xs h = filled-from vs xs 0 (omega arith)

-- a list by its places
pub tabulated : (n : ℕ) (xs : List ℕ) → length xs ≡ n → xs ≡ tabulate n (at xs)
tabulated n xs h = ext_get_or 0 xs (tabulate n (at xs)) (h ∙ sym (length-tabulate (at xs) n)) (λ i l. sym (get_d_tabulate (at xs) n i 0 (omega arith)))

-- ---- a list copied over another, place by place

copied-suc : (from over : List ℕ) (i : ℕ) → i < length from → i < length over → set (take i from ++ drop i over) i (at from i) ≡ take (suc i) from ++ drop (suc i) over
copied-suc [] over i h l = absurd (omega arith)
copied-suc (x ∷ from) [] i h l = absurd (omega arith)
copied-suc (x ∷ from) (y ∷ over) zero h l = refl
copied-suc (x ∷ from) (y ∷ over) (suc i) h l = ap (λ (r : List ℕ). x ∷ r) (copied-suc from over i (omega arith) (omega arith))

module _ (from over : List ℕ) (i : ℕ) where
  pub copied_more : {l : List ℕ} → i < length from → i < length over → l ≡ take i from ++ drop i over → set l i (at from i) ≡ take (i + 1) from ++ drop (i + 1) over
  copied_more h k e = ap (λ (l : List ℕ). set l i (at from i)) e ∙ copied-suc from over i h k ∙ sym (ap (λ (j : ℕ). take j from ++ drop j over) (add-one i))

  pub copied_all : {l : List ℕ} → length from ≤ i → length over ≤ i → l ≡ take i from ++ drop i over → l ≡ from
  copied_all h k e = e ∙ ap (λ (r : List ℕ). take i from ++ r) (drop_of_length-le over k) ∙ append-nil (take i from) ∙ take_all i from h
