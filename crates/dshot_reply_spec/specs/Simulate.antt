-- The simulated ESC, which document 01 adds: the levels and samples of a capture of a word, at s samples a bit.
-- Assumes nothing.
use Rattle.std.specs.Prelude.{ℕ, zero, suc, ◌+◌, ◌-◌, ◌*◌, Bool, true, not, List, [], ◌++◌, map, eqb, ltb, length, replicate, if◌then◌else◌}
use Rattle.dshot_reply_spec.specs.Answer.{Answer, given, refused}
use Rattle.dshot_reply_spec.specs.Refusals.{no_mask, wrong_length}
use Rattle.dshot_reply_spec.specs.Gcr.{reply_word}
use Rattle.dshot_reply_spec.specs.Move.{bit}
use Rattle.dshot_reply_spec.specs.Runs.{REPLY_BITS, MAX_REPLY_SAMPLES}

-- the level of the bit b, after the level l: a 1 is an edge
abbrev pub next_level : Bool → ℕ → Bool
next_level l b = if eqb b 1 then not l else l

-- the levels of the lowest i bits of a word, the highest of them first, s samples a bit, after the level l
abbrev pub bit_levels : ℕ → Bool → ℕ → ℕ → List Bool
bit_levels s l zero w = []
bit_levels s l (suc i) w = replicate s (next_level l (bit w i)) ++ bit_levels s (next_level l (bit w i)) i w

-- a lead of high samples, then the word, then m more high samples
unfoldable pub word_levels : ℕ → ℕ → ℕ → ℕ → List Bool
word_levels s w lead m = replicate lead true ++ (bit_levels s true REPLY_BITS w ++ replicate m true)

-- A high sample has all pins of the mask set, and a low one none.
abbrev pub level_sample : ℕ → Bool → ℕ
level_sample mask l = if l then mask else 0

-- the samples of a word in a buffer of n samples
unfoldable pub word_samples : ℕ → ℕ → ℕ → ℕ → ℕ → List ℕ
word_samples s w lead mask n = map (level_sample mask) (word_levels s w lead (n - lead - REPLY_BITS * s))

-- The capture of a value fills the whole buffer `out`. If `out` has no room for the lead and the samples that are read, the answer is 13 (wrong
-- length). Next, if the mask is 0, it is 12 (no mask).
unfoldable pub simulated : ℕ → List ℕ → ℕ → ℕ → ℕ → Answer (List ℕ)
simulated s out v lead mask =
    if ltb (length out) (lead + MAX_REPLY_SAMPLES s) then refused wrong_length else
    if eqb mask 0 then refused no_mask else
    given (word_samples s (reply_word v) lead mask (length out))
