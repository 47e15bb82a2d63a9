-- What slots hold after rows are written.
-- Assumes nothing.
use mathlib.Core.Path.{◌≡◌, ◌∙◌, refl, sym, ap}
use mathlib.Core.Bool.{Bool, true, false}
use mathlib.Core.List.{List, [], ◌∷◌, ◌++◌}
use Prim.Native.Nat.{ℕ, ◌+◌, ◌*◌, ◌/◌, ◌%◌, ◌<◌}
use native.Mathlib.Nat.{div-add-mod'}
use native.Mathlib.Omega.{arith}
use lib.Dec.{eqb, ltb}
use lib.ListN.{length, get_or, set, length-set}
use lib.Seq.{ext_get_or, get_or-set_same, get_or-set_other}
use borrow.Author.Tests.{ltb-true, eqb-true, eqb-false, lt-ltb}
use Rattle.dshot_reply_spec.specs.Answer.{pick}
use Rattle.dshot_bank_spec.proofs.LaneLaws.{on}
use Rattle.bank_slots_spec.specs.Memory.{Row, at, write, put, over, within, word_rows}

at_set : (xs : List ℕ) (k v : ℕ) → k < length xs → at (set xs k v) ≡ put k v (at xs)
at_set xs k v h = λ j i. here i j
  where
    side : (i : ℕ) (b : Bool) → eqb i k ≡ b → get_or (set xs k v) i 0 ≡ pick b v (get_or xs i 0)
    side i true e = let s : i ≡ k = eqb-true i k e in rw s (get_or-set_same xs k v 0 h)
    side i false e = get_or-set_other xs k i v 0 (eqb-false i k e)

    here : (i : ℕ) → get_or (set xs k v) i 0 ≡ pick (eqb i k) v (get_or xs i 0)
    here i = side i (eqb i k) refl

-- both tests hold
pub both : (a b : Bool) → pick a b false ≡ true → (a ≡ true) × (b ≡ true)
both true b h = (refl, h)
both false b h = absurd (never h)
  where
    never : false ≡ true → ⊥
    never e = let z : ◌≡◌ {A = ℕ} 0 1 = cc in omega arith

pub at-write : (rows : List Row) (xs : List ℕ) → within rows (length xs) ≡ true → at (write rows xs) ≡ over rows (at xs)
at-write [] xs h = refl
at-write (r ∷ rows) xs h =
    let b = both (ltb r.slot (length xs)) (within rows (length xs)) h in
    let k : r.slot < length xs = ltb-true r.slot (length xs) b.0 in
    at-write rows (set xs r.slot r.value) (rw length-set b.1) ∙ ap (over rows) (at_set xs r.slot r.value k)

pub length-write : (rows : List Row) (xs : List ℕ) → length (write rows xs) ≡ length xs
length-write [] xs = refl
length-write (r ∷ rows) xs = length-write rows (set xs r.slot r.value) ∙ length-set xs r.slot r.value

-- ---- rows that hold what their slots hold

pub data Agrees (m : ℕ → ℕ) : List Row → Type 0 where
  nil : Agrees m []
  row : {r : Row} {rows : List Row} → m r.slot ≡ r.value → Agrees m rows → Agrees m (r ∷ rows)

pub agrees-append : {m : ℕ → ℕ} {first : List Row} (second : List Row) → Agrees m first → Agrees m second → Agrees m (first ++ second)
agrees-append second nil b = b
agrees-append second (row e a) b = row e (agrees-append second a b)

put-agrees : (k v : ℕ) (m : ℕ → ℕ) → m k ≡ v → put k v m ≡ m
put-agrees k v m e = λ j i. here i j
  where
    side : (i : ℕ) (b : Bool) → eqb i k ≡ b → pick b v (m i) ≡ m i
    side i true q = sym e ∙ ap m (sym (eqb-true i k q))
    side i false q = refl

    here : (i : ℕ) → put k v m i ≡ m i
    here i = side i (eqb i k) refl

over-agrees : {m : ℕ → ℕ} {rows : List Row} → Agrees m rows → over rows m ≡ m
over-agrees nil = refl
over-agrees {m} (row {r} {rows} e a) = ap (over rows) (put-agrees r.slot r.value m e) ∙ over-agrees a

-- writing them changes nothing
pub write-agrees : (rows : List Row) (xs : List ℕ) → within rows (length xs) ≡ true → Agrees (at xs) rows → write rows xs ≡ xs
write-agrees rows xs h a =
    let e = at-write rows xs h ∙ over-agrees a in
    ext_get_or 0 (write rows xs) xs (length-write rows xs) (λ i l. ap (λ (m : ℕ → ℕ). m i) e)

-- ---- words

pub word_back : (n : ℕ) → n / 65536 * 65536 + n % 65536 ≡ n
word_back n = div-add-mod' n 65536

-- a word fits if its second slot does
pub within_word : (k n l : ℕ) → k + 1 < l → within (word_rows k n) l ≡ true
within_word k n l h = sym (on _ _ (lt-ltb k l (omega arith)) (on _ _ (lt-ltb (k + 1) l h) refl))
