-- A part of some slots that is written as a whole: the same as its rows, written one after another. A lane's part of a buffer. A flag in a slot.
-- Assumes nothing.
use Rattle.std.proofs.Common.{◌≡◌, Bool, true, false, ℕ, ◌+◌, ◌-◌, ◌*◌, ◌≤◌, List, [], ◌∷◌, length, set, replicate, refl, sym, ap, ◌∙◌, arith, add-one, append_assoc, ◌++◌, take, drop, length-drop, length-take, drop-drop}
use Rattle.std.proofs.lemmas.List.{length-replicate}
use lib.Seq.{sets, sets-eq}
use borrow.Rule.Slice.PartMut.{mid_of, put_mid}
use Rattle.dshot_spec.specs.Tabulate.{part}
use Rattle.bank_slots_spec.specs.Memory.{write}
use Rattle.bank_slots_spec.specs.Parts.{slot_rows}
use Rattle.bank_slots_spec.specs.Store.{bit}
use Rattle.std.specs.Int.{from_bool}

write-sets : (vs xs : List ℕ) (k : ℕ) → write (slot_rows k vs) xs ≡ sets xs k vs
write-sets [] xs k = refl
write-sets (v ∷ vs) xs k = write-sets vs (set xs k v) (k + 1) ∙ ap (λ (j : ℕ). sets (set xs k v) j vs) (add-one k)

-- values over a part of n slots from slot k on
pub put-part : (k n : ℕ) (xs vs : List ℕ) → length vs ≡ n → k + n ≤ length xs → put_mid k n xs vs ≡ write (slot_rows k vs) xs
put-part k n xs vs e h =
    let rest : drop n (drop k xs) ≡ drop (k + length vs) xs = ap (λ (j : ℕ). drop j (drop k xs)) (sym e) ∙ drop-drop (length vs) k xs in
    ap (λ (l : List ℕ). take k xs ++ (vs ++ l)) rest
    ∙ sym (append_assoc (take k xs) vs (drop (k + length vs) xs))
    ∙ sym (write-sets vs xs k ∙ sets-eq vs xs k (omega arith))

-- zeros
pub zeroed : {z : List ℕ} (k n : ℕ) (xs : List ℕ) → z ≡ replicate (length (mid_of k n xs)) 0 → k + n ≤ length xs → put_mid k n xs z ≡ write (slot_rows k (replicate n 0)) xs
zeroed {z} k n xs e h =
    let size : length (mid_of k n xs) ≡ n = simp (length-take, length-drop) (omega arith) in
    ap (put_mid k n xs) (e ∙ ap (λ (j : ℕ). replicate j 0) size) ∙ put-part k n xs (replicate n 0) (length-replicate n 0) h

pub bit_is : (b : Bool) → from_bool b ≡ bit b
bit_is true = refl
bit_is false = refl

-- a lane's part of a buffer that holds w slots for each, by the place where it begins
pub part-is : (w lane from : ℕ) (xs : List ℕ) → from ≡ w * lane → take (from + w - from) (drop from xs) ≡ part w lane xs
part-is w lane from xs e = rw e (ap (λ (n : ℕ). take n (drop (w * lane) xs)) (omega arith))
