-- Laws of lists over the lanes, for every number of lanes. What a loop over the lanes keeps, what it ends with, and lists that differ at one lane.
-- Assumes nothing.
use mathlib.Core.Path.{◌≡◌, ◌∙◌, refl, sym, ap, subst}
use Prim.Native.Nat.{ℕ, zero, suc, ◌+◌, ◌<◌, ◌≤◌}
use mathlib.Core.List.{List, [], ◌∷◌, ◌++◌, map}
use mathlib.Core.Bool.{Bool, true, false}
use native.Mathlib.Omega.{arith}
use native.Mathlib.Decide.{dec_lt}
use native.Mathlib.Numerals.{add-one}
use borrow.Author.Count.{below_none, below_more}
use lib.ListN.{length, get_or, set, take, drop, length-set, length-drop}
use lib.Seq.{ext_get_or, get_or-set_same, get_or-set_other, take-append-le, drop-append-le}
use Rattle.dshot_reply_spec.specs.Answer.{pick}
use Rattle.dshot_spec.specs.Tabulate.{tabulate}
use Rattle.dshot_spec.proofs.Tabulated.{length-tabulate, get_d_tabulate}
use Rattle.dshot_bank_spec.specs.Lanes.{each, any, position}

-- ---- a settled test

-- what a test picks that holds
pub on : {A : Type 0} {b : Bool} {z : A} (x y : A) → b ≡ true → z ≡ x → z ≡ pick b x y
on {A} {b} {z} x y e h = subst (λ (t : Bool). z ≡ pick t x y) (sym e) h

-- what a test picks that does not
pub off : {A : Type 0} {b : Bool} {z : A} (x y : A) → b ≡ false → z ≡ y → z ≡ pick b x y
off {A} {b} {z} x y e h = subst (λ (t : Bool). z ≡ pick t x y) (sym e) h

-- what holds of both holds of what a test picks
pub either : {A : Type 0} (P : A → Type 0) (b : Bool) {x y : A} → P x → P y → P (pick b x y)
either P true h k = h
either P false h k = k

-- a function of what a test picks
pub under : {A B : Type 0} (g : A → B) (b : Bool) (x y : A) → pick b (g x) (g y) ≡ g (pick b x y)
under g true x y = refl
under g false x y = refl

-- ---- each

pub each_none : {A : Type 0} (f : ℕ → A → A) (x : A) → x ≡ each 0 f x
unfolding each
each_none f x = refl

pub each_more : {A : Type 0} (f : ℕ → A → A) (i : ℕ) (x : A) {y z : A} → y ≡ each i f x → z ≡ f i y → z ≡ each (i + 1) f x
unfolding each
each_more f i x e h = h ∙ ap (f i) e ∙ rw add-one

pub each_all : {A : Type 0} (f : ℕ → A → A) (x : A) {i n : ℕ} {y : A} → i ≤ n → n ≤ i → y ≡ each i f x → y ≡ each n f x
each_all f x {i} {n} a b e = let k : i ≡ n = omega arith in e ∙ ap (λ (m : ℕ). each m f x) k

-- ---- searches

-- no entry before i passes
pub record Passed {A : Type 0} (n : ℕ) (p : A → Bool) (d : A) (v : List A) (i : ℕ) : Type 0 where
  pub within : i ≤ n
  pub long : length v ≡ n
  pub none : (k : ℕ) → k < i → p (get_or v k d) ≡ false

module _ {A : Type 0} {n : ℕ} {p : A → Bool} {d : A} {v : List A} where
  pub passed_none : length v ≡ n → Passed n p d v 0
  passed_none h = record { within = omega arith; long = h; none = below_none _ }

  pub passed-more : {i : ℕ} → Passed n p d v i → i < n → p (get_or v i d) ≡ false → Passed n p d v (i + 1)
  passed-more h l e = record { within = omega arith; long = h.long; none = below_more _ _ h.none e }

module _ {A : Type 0} (p : A → Bool) (d : A) where
  pub any_at : (v : List A) (i : ℕ) → i < length v → p (get_or v i d) ≡ true → true ≡ any p v
  unfolding any
  any_at [] i h e = absurd (omega arith)
  any_at (x ∷ xs) zero h e = on _ _ e refl
  any_at (x ∷ xs) (suc i) h e = later (p x) (any_at xs i (omega arith) e)
    where
      later : (b : Bool) → true ≡ any p xs → true ≡ pick b true (any p xs)
      later true r = refl
      later false r = r

  pub none-at : (v : List A) → ((k : ℕ) → k < length v → p (get_or v k d) ≡ false) → false ≡ any p v
  unfolding any
  none-at [] h = refl
  none-at (x ∷ xs) h = off _ _ (h 0 (omega arith)) (none-at xs (λ k l. h (suc k) (omega arith)))

  first-at : (v : List A) (i : ℕ) → i < length v → ((k : ℕ) → k < i → p (get_or v k d) ≡ false) → p (get_or v i d) ≡ true → i ≡ position p v
  unfolding position
  first-at [] i l h e = absurd (omega arith)
  first-at (x ∷ xs) zero l h e = on _ _ e refl
  first-at (x ∷ xs) (suc i) l h e = off _ _ (h 0 (omega arith)) (ap suc (first-at xs i (omega arith) (λ k m. h (suc k) (omega arith)) e))

  first-none : (v : List A) → ((k : ℕ) → k < length v → p (get_or v k d) ≡ false) → length v ≡ position p v
  unfolding position
  first-none [] h = refl
  first-none (x ∷ xs) h = off _ _ (h 0 (omega arith)) (ap suc (first-none xs (λ k l. h (suc k) (omega arith))))

module _ {A : Type 0} {n : ℕ} {p : A → Bool} {d : A} {v : List A} {i : ℕ} (h : Passed n p d v i) where
  pub any-hit : i < n → p (get_or v i d) ≡ true → true ≡ any p v
  any-hit l e = any_at p d v i (omega arith) e

  pub any-miss : n ≤ i → false ≡ any p v
  any-miss l = none-at p d v (λ k m. h.none k (omega arith))

  pub position-hit : i < n → p (get_or v i d) ≡ true → i ≡ position p v
  position-hit l e = first-at p d v i (omega arith) h.none e

  pub position-miss : n ≤ i → n ≡ position p v
  position-miss l = sym h.long ∙ first-none p d v (λ k m. h.none k (omega arith))

-- ---- all but one lane

-- two lists over the lanes that differ at one lane, with that lane hidden
pub set-tabulate : {A : Type 0} (n lane : ℕ) (z : A) (f g : ℕ → A) → ((k : ℕ) → (k ≡ lane → ⊥) → f k ≡ g k) → set (tabulate n f) lane z ≡ set (tabulate n g) lane z
set-tabulate {A} n lane z f g h =
    ext_get_or z (set (tabulate n f) lane z) (set (tabulate n g) lane z) (size f ∙ sym (size g)) (λ k l. at k (omega (arith, size f)) (dec_lt k lane) (dec_lt lane k))
  where
    size : (q : ℕ → A) → length (set (tabulate n q) lane z) ≡ n
    size q = length-set (tabulate n q) lane z ∙ length-tabulate q n

    other : (q : ℕ → A) (k : ℕ) → k < n → (k ≡ lane → ⊥) → get_or (set (tabulate n q) lane z) k z ≡ q k
    other q k l ne = get_or-set_other (tabulate n q) lane k z z ne ∙ get_d_tabulate q n k z l

    here : (q : ℕ → A) (k : ℕ) → k < n → k ≡ lane → get_or (set (tabulate n q) lane z) k z ≡ z
    here q k l e = rw e (get_or-set_same (tabulate n q) lane z z (omega (arith, length-tabulate q n)))

    apart : (k : ℕ) → k < n → (k ≡ lane → ⊥) → get_or (set (tabulate n f) lane z) k z ≡ get_or (set (tabulate n g) lane z) k z
    apart k l ne = other f k l ne ∙ h k ne ∙ sym (other g k l ne)

    at : (k : ℕ) → k < n → Dec (k < lane) → Dec (lane < k) → get_or (set (tabulate n f) lane z) k z ≡ get_or (set (tabulate n g) lane z) k z
    at k l (yes p) d = apart k l (λ e. omega arith)
    at k l (no p) (yes q) = apart k l (λ e. omega arith)
    at k l (no p) (no q) = let e : k ≡ lane = omega arith in here f k l e ∙ sym (here g k l e)

-- a function of every entry, if one was replaced
pub map-set : {A B : Type 0} (f : A → B) (l : List A) (i : ℕ) (y : A) → map f (set l i y) ≡ set (map f l) i (f y)
map-set f [] i y = refl
map-set f (x ∷ xs) zero y = refl
map-set {B = B} f (x ∷ xs) (suc i) y = ap (λ (r : List B). f x ∷ r) (map-set f xs i y)

-- ---- a lane's part of a list

-- the part of m entries from entry a on lies before the seam
pub part-before : {A : Type 0} (a m : ℕ) (p q : List A) → a + m ≤ length p → take m (drop a (p ++ q)) ≡ take m (drop a p)
part-before {A} a m p q h =
    ap (λ (l : List A). take m l) (drop-append-le a p q (omega arith)) ∙ take-append-le m (drop a p) q (omega (arith, length-drop a p))
