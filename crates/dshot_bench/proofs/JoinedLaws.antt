-- The laws of parts of one width that are joined, for every count. They give the length, and what a loop that puts the parts in their places keeps.
-- Assumes nothing.
use mathlib.Core.Path.{◌≡◌, ◌∙◌, sym, ap}
use mathlib.Core.List.{List, ◌++◌, append_assoc}
use Prim.Native.Nat.{ℕ, zero, suc, ◌+◌, ◌*◌, ◌<◌, ◌≤◌}
use native.Mathlib.Omega.{arith}
use native.Mathlib.Nat.{mul-le-mul_left}
use native.Mathlib.Numerals.{add-one}
use lib.ListN.{length, take, drop, length-append, length-drop}
use lib.Seq.{drop-drop, take_at, drop_at}
use Rattle.dshot_bench.specs.Sequences.{joined}

-- slots whose first i parts of width w are those of f
pub record Joined (w n : ℕ) (f : ℕ → List ℕ) (xs : List ℕ) (i : ℕ) (out : List ℕ) : Type 0 where
  pub within : i ≤ n
  pub old : length xs ≡ w * n
  pub long : length out ≡ w * n
  pub is : out ≡ joined i f ++ drop (w * i) xs

-- as long as its parts together
pub length-joined : (w : ℕ) (f : ℕ → List ℕ) → ((i : ℕ) → length (f i) ≡ w) → (n : ℕ) → length (joined n f) ≡ w * n
unfolding joined
length-joined w f wide zero = omega arith
length-joined w f wide (suc n) = length-append (joined n f) (f n) ∙ omega (arith, length-joined w f wide n, wide n)

-- one part more is put behind
pub joined-suc : (f : ℕ → List ℕ) (n : ℕ) → joined (n + 1) f ≡ joined n f ++ f n
unfolding joined
joined-suc f n = rw add-one

module _ {w n : ℕ} {f : ℕ → List ℕ} {xs : List ℕ} where
  -- before the first part is put
  pub joined-none : length xs ≡ w * n → Joined w n f xs 0 xs
  unfolding joined
  joined-none h = let z : w * 0 ≡ 0 = omega arith in record { within = omega arith; old = h; long = h; is = rw z }

  -- after one more is put
  pub joined-more : {i : ℕ} {out after ys : List ℕ} → ((k : ℕ) → length (f k) ≡ w) → Joined w n f xs i out → i < n
      → after ≡ take (w * i) out ++ (ys ++ drop w (drop (w * i) out)) → ys ≡ f i → Joined w n f xs (i + 1) after
  joined-more {i} {out} {after} wide h l e p = record { within = omega arith; old = h.old; long = long; is = step }
    where
      head : take (w * i) out ≡ joined i f
      head = ap (take (w * i)) h.is ∙ take_at (joined i f) (drop (w * i) xs) (w * i) (length-joined w f wide i)

      tail : drop (w * i) out ≡ drop (w * i) xs
      tail = ap (drop (w * i)) h.is ∙ drop_at (joined i f) (drop (w * i) xs) (w * i) (length-joined w f wide i)

      step : after ≡ joined (i + 1) f ++ drop (w * (i + 1)) xs
      step =
          let k : w * i + w ≡ w * (i + 1) = omega arith in
          e
          ∙ (λ j. head j ++ (p j ++ drop w (tail j)))
          ∙ ap (λ (l : List ℕ). joined i f ++ (f i ++ l)) (drop-drop w (w * i) xs)
          ∙ sym (append_assoc (joined i f) (f i) (drop (w * i + w) xs))
          ∙ (λ j. sym (joined-suc f i) j ++ drop (k j) xs)

      long : length after ≡ w * n
      long =
          let fits : w * (i + 1) ≤ w * n = mul-le-mul_left w (omega arith) in
          ap length step
          ∙ length-append (joined (i + 1) f) (drop (w * (i + 1)) xs)
          ∙ omega (arith, length-joined w f wide (i + 1), length-drop (w * (i + 1)) xs, h.old)
