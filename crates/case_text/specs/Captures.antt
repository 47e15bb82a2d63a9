-- The samples of a capture that is given as runs of equal samples.
-- Assumes nothing.
use Rattle.std.specs.Prelude.{ℕ, List, [], ◌∷◌, ◌++◌, replicate}

-- each run is a sample and how many times it comes; a sample at the end without its number is left out
abbrev pub unrolled : List ℕ → List ℕ
unrolled [] = []
unrolled (sample ∷ []) = []
unrolled (sample ∷ times ∷ runs) = replicate times sample ++ unrolled runs
