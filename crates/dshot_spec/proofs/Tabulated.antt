-- The laws of a list by the entry at each place, for every count. They give its length, its entries, and what a loop that fills it keeps.
-- Assumes nothing.
use Rattle.std.specs.Prelude.{◌≡◌, ℕ, zero, suc, ◌+◌, ◌<◌, ◌≤◌, List, [], ◌∷◌, ◌++◌, length, get_or, drop, set}
use mathlib.Core.Path.{◌∙◌, refl, sym, ap}
use mathlib.Core.List.{append-nil}
use native.Mathlib.Omega.{arith}
use native.Mathlib.Decide.{dec_lt}
use native.Mathlib.Numerals.{add-one}
use lib.ListN.{length-append, length-set, drop_of_length-le, get_or-append}
use lib.Seq.{drop-cons, set_at, get_or_at, append_snoc}
use Rattle.dshot_spec.specs.Tabulate.{tabulate}

module _ {A : Type 0} (f : ℕ → A) where
  -- there are as many entries as asked for
  pub length-tabulate : (n : ℕ) → length (tabulate n f) ≡ n
  unfolding tabulate
  length-tabulate zero = refl
  length-tabulate (suc n) = length-append (tabulate n f) (f n ∷ []) ∙ omega (arith, length-tabulate n)

  -- one entry more is put behind
  pub tabulate-more : (n : ℕ) → tabulate (n + 1) f ≡ tabulate n f ++ (f n ∷ [])
  unfolding tabulate
  tabulate-more n = rw add-one

  -- the entry at place k is f k
  pub get_d_tabulate : (n k : ℕ) (d : A) → k < n → get_or (tabulate n f) k d ≡ f k
  unfolding tabulate
  get_d_tabulate zero k d h = absurd (omega arith)
  get_d_tabulate (suc n) k d h = side (dec_lt k n) (get_d_tabulate n k d)
    where
      side : Dec (k < n) → (k < n → get_or (tabulate n f) k d ≡ f k) → get_or (tabulate n f ++ (f n ∷ [])) k d ≡ f k
      side (yes p) r = get_or-append (tabulate n f) (f n ∷ []) d k (omega (arith, length-tabulate n)) ∙ r p
      side (no q) r = let e : k ≡ n = omega arith in rw e (get_or_at (tabulate n f) (f n) [] d n (length-tabulate n))

-- an array whose first i entries are filled by f
pub record Filled {A : Type 0} (n : ℕ) (f : ℕ → A) (xs : List A) (i : ℕ) (out : List A) : Type 0 where
  pub within : i ≤ n
  pub old : length xs ≡ n
  pub long : length out ≡ n
  pub is : out ≡ tabulate i f ++ drop i xs

module _ {A : Type 0} {n : ℕ} {f : ℕ → A} {xs : List A} where
  -- before the first is filled
  pub filled_none : length xs ≡ n → Filled n f xs 0 xs
  unfolding tabulate
  filled_none h = record { within = omega arith; old = h; long = h; is = refl }

  -- after one more is filled
  pub filled_more : {i : ℕ} {out : List A} {v : A} → Filled n f xs i out → i < n → v ≡ f i → Filled n f xs (i + 1) (set out i v)
  filled_more {i} {out} {v} h l e =
      record { within = omega arith; old = h.old; long = length-set out i v ∙ h.long; is = step }
    where
      step : set out i v ≡ tabulate (i + 1) f ++ drop (i + 1) xs
      step =
          ap (λ (l : List A). set l i v) (h.is ∙ ap (λ (l : List A). tabulate i f ++ l) (drop-cons xs i v (omega arith)))
          ∙ set_at (tabulate i f) (get_or xs i v) (drop (suc i) xs) v i (length-tabulate f i)
          ∙ ap (λ (a : A). tabulate i f ++ a ∷ drop (suc i) xs) e
          ∙ sym (append_snoc (tabulate i f) (f i) (drop (suc i) xs))
          ∙ (λ j. sym (tabulate-more f i) j ++ drop (sym (add-one i) j) xs)

  -- after the last is filled
  pub filled-all : {i : ℕ} {out : List A} → Filled n f xs i out → n ≤ i → out ≡ tabulate n f
  filled-all {i} {out} h l =
      let e : i ≡ n = omega arith in
      h.is ∙ rw (e, drop_of_length-le xs {i = n} (omega arith)) (append-nil (tabulate n f))
