-- Rows of a table. A test finds exactly the rows that are in the table. If every row passes a test, the test's claim holds of each row.
-- Assumes nothing.
use mathlib.Core.Path.{◌≡◌, sym, subst, refl}
use mathlib.Core.Bool.{Bool, true, false}
use mathlib.Core.List.{List, [], ◌∷◌, Memᴰ}
use Prim.Native.Nat.{ℕ}
use lib.Dec.{T, eqb, eqb→eq, eqb_refl}
use Rattle.dshot_reply_spec.proofs.Table.{below, both, both_left, both_right}
use Rattle.dshot_reply_spec.specs.Answer.{pick}

unfoldable pub same_row : List ℕ → List ℕ → Bool
same_row [] [] = true
same_row [] (y ∷ ys) = false
same_row (x ∷ xs) [] = false
same_row (x ∷ xs) (y ∷ ys) = both (eqb x y) (same_row xs ys)

row-equal : (xs ys : List ℕ) → T (same_row xs ys) → xs ≡ ys
unfolding same_row
row-equal [] [] t = refl
row-equal [] (y ∷ ys) t = absurd t
row-equal (x ∷ xs) [] t = absurd t
row-equal (x ∷ xs) (y ∷ ys) t = cc (eqb→eq x y (both_left (eqb x y) (same_row xs ys) t), row-equal xs ys (both_right (eqb x y) (same_row xs ys) t))

both_of : (a b : Bool) → T a → T b → T (both a b)
both_of true b s t = t
both_of false b s t = s

row-itself : (xs : List ℕ) → T (same_row xs xs)
unfolding same_row
row-itself [] = tt
row-itself (x ∷ xs) = both_of (eqb x x) (same_row xs xs) (eqb_refl x) (row-itself xs)

-- whether a row is among the rows of a table
unfoldable pub listed : List ℕ → List (List ℕ) → Bool
listed x [] = false
listed x (r ∷ rs) = pick (same_row x r) true (listed x rs)

pub listed_in : (x : List ℕ) (rs : List (List ℕ)) → T (listed x rs) → Memᴰ x rs
unfolding listed
listed_in x [] t = absurd t
listed_in x (r ∷ rs) t = go (same_row x r) refl (listed_in x rs) t
  where
    go : (b : Bool) → same_row x r ≡ b → (T (listed x rs) → Memᴰ x rs) → T (pick b true (listed x rs)) → Memᴰ x (r ∷ rs)
    go true e below u = Memᴰ.head (row-equal x r (subst T (sym e) tt))
    go false e below u = Memᴰ.tail (below u)

found : (b c : Bool) → T b → T (pick b true c)
found true c t = tt
found false c t = absurd t

later : (b c : Bool) → T c → T (pick b true c)
later true c t = tt
later false c t = t

pub in-listed : {x : List ℕ} {rs : List (List ℕ)} → Memᴰ x rs → T (listed x rs)
unfolding listed
in-listed {x} (Memᴰ.head {x = r} {xs = rs} e) = found (same_row x r) (listed x rs) (subst (λ (y : List ℕ). T (same_row x y)) e (row-itself x))
in-listed {x} (Memᴰ.tail {x = r} {xs = rs} m) = later (same_row x r) (listed x rs) (in-listed m)

-- a test that every row of a table passes
abbrev pub every : (List ℕ → Bool) → List (List ℕ) → Bool
every f [] = true
every f (r ∷ rs) = both (f r) (every f rs)

pub passes : (f : List ℕ → Bool) {x : List ℕ} {rs : List (List ℕ)} → T (every f rs) → Memᴰ x rs → T (f x)
passes f t (Memᴰ.head {x = r} {xs = rs} e) = subst (λ (y : List ℕ). T (f y)) (sym e) (both_left (f r) (every f rs) t)
passes f t (Memᴰ.tail {x = r} {xs = rs} m) = passes f (both_right (f r) (every f rs) t) m
