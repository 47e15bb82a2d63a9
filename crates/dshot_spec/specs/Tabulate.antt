-- A list by the entry at each place, and its parts: the lanes of a bank, the slots of a buffer. The number of entries is a parameter.
-- Stands for the Rust's `core::array::from_fn` and `map`.
-- Assumes nothing.
use Rattle.std.specs.Prelude.{ℕ, zero, suc, ◌*◌, List, [], ◌∷◌, ◌++◌, take, drop}

-- f 0, f 1, .. f (n - 1)
unfoldable pub tabulate : {A : Type 0} → ℕ → (ℕ → A) → List A
tabulate zero f = []
tabulate (suc n) f = tabulate n f ++ (f n ∷ [])

-- the i-th part of k entries of a list, counted from 0
abbrev pub part : {A : Type 0} → ℕ → ℕ → List A → List A
part k i xs = take k (drop (k * i) xs)
