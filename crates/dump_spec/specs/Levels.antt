-- The level of a signal at a time, over the list of its changes, and samples of it (document 02). Nothing here knows how a text is read.
-- Assumes nothing.
use Rattle.std.specs.Prelude.{ℕ, zero, suc, ◌+◌, List, [], ◌∷◌, leb, ltb, if◌then◌else◌}
use Rattle.dump_spec.specs.Signal.{Change}

-- the level of the last change at or before t; l, if there is none
abbrev pub level_at : ℕ → List Change → ℕ → ℕ
level_at l [] t = l
level_at l (c ∷ cs) t = level_at (if leb c.time t then c.level else l) cs t

-- n samples from the time t on, a period apart
abbrev pub samples_from : ℕ → List Change → ℕ → ℕ → ℕ → List ℕ
samples_from l cs period t zero = []
samples_from l cs period t (suc n) = level_at l cs t ∷ samples_from l cs period (t + period) n

-- the number of the first sample that has no level, if k samples stand before; if each has one, the number of samples
abbrev pub first_without : ℕ → List ℕ → ℕ
first_without k [] = k
first_without k (l ∷ ls) = if ltb l 2 then first_without (k + 1) ls else k
