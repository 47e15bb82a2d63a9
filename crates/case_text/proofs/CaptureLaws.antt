-- The samples of runs, one run after another.
-- Assumes nothing.
use Rattle.std.proofs.Common.{◌≡◌, ◌<◌, ◌+◌, ◌*◌, ◌/◌, length, ℕ, zero, suc, List, [], ◌∷◌, ◌++◌, get_or, take, drop, replicate, refl, ap, sym, ◌∙◌, arith, append_assoc, drop-drop}
use Rattle.std.proofs.lemmas.List.{take-append-drop, length-drop, length-take-le}
use Rattle.std.specs.Simd.{first_chunks}
use Rattle.case_text.specs.Captures.{unrolled}

-- two numbers are a run, and the rest are the runs after it
pub next_run : (xs rest : List ℕ) → length xs ≡ 2 → unrolled (xs ++ rest) ≡ replicate (get_or xs 1 0) (get_or xs 0 0) ++ unrolled rest
next_run [] rest h = absurd (omega arith)
next_run (s ∷ []) rest h = absurd (omega arith)
next_run (s ∷ n ∷ []) rest h = refl
next_run (s ∷ n ∷ x ∷ xs) rest h = absurd (omega arith)

-- the chunk at a place
pub chunk_at : (k n i : ℕ) (xs : List ℕ) → i < n → get_or (first_chunks k n xs) i [] ≡ take k (drop (k * i) xs)
chunk_at k zero i xs h = absurd (omega arith)
chunk_at k (suc n) zero xs h = λ j. take k (drop (start j) xs)
  where
    start : 0 ≡ k * 0
    start = omega arith
chunk_at k (suc n) (suc i) xs h = chunk_at k n i (drop k xs) (omega arith) ∙ ap (take k) (drop-drop (k * i) k xs ∙ (λ j. drop (far j) xs))
  where
    far : k + k * i ≡ k * suc i
    far = omega arith

-- the samples so far, then those of a run and of the runs after it
pub more : (all before xs : List ℕ) (cs : List (List ℕ)) (i : ℕ) → cs ≡ first_chunks 2 (length xs / 2) xs → i < length xs / 2 → all ≡ before ++ unrolled (drop (2 * i) xs)
    → all ≡ (before ++ replicate (get_or (get_or cs i []) 1 0) (get_or (get_or cs i []) 0 0)) ++ unrolled (drop (2 * (i + 1)) xs)
more all before xs cs i chunks h e =
    let left = drop (2 * i) xs in
    let run = take 2 left in
    let is : run ≡ get_or cs i [] = sym (ap (λ l. get_or l i []) chunks ∙ chunk_at 2 (length xs / 2) i xs h) in
    let next : 2 * i + 2 ≡ 2 * (i + 1) = omega arith in
    e ∙ ap (λ zs. before ++ unrolled zs) (sym (take-append-drop 2 left))
    ∙ ap (λ zs. before ++ zs) (next_run run (drop 2 left) (length-take-le 2 left (omega (arith, length-drop (2 * i) xs))))
    ∙ sym (append_assoc before (replicate (get_or run 1 0) (get_or run 0 0)) (unrolled (drop 2 left)))
    ∙ (λ j. (before ++ replicate (get_or (is j) 1 0) (get_or (is j) 0 0)) ++ unrolled ((drop-drop 2 (2 * i) xs ∙ (λ k. drop (next k) xs)) j))
