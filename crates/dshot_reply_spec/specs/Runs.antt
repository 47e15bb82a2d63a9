-- The samples of a lane as runs of equal levels, and the runs as the transition bits of a reply, at s samples a bit.
-- Stands for `reply_transitions` of crates/ferrowasp-output/src/dshot_reply.rs (Eirik2020/ferro-wasp, commit 9cb8aca1a6, Copyright (c) 2026
-- Kaldstrand, Apache-2.0), changed: rewritten as a definition.
-- Assumes nothing.
use Rattle.std.specs.Prelude.{ℕ, suc, ◌+◌, ◌-◌, ◌*◌, ◌/◌, ◌^◌, max, Bool, true, false, not, List, [], ◌∷◌, ◌++◌, map, eqb, leb, ltb, length, take, drop, if◌then◌else◌}
use Rattle.std.specs.Int.Bits.{bit_and}
use Rattle.dshot_reply_spec.specs.Answer.{Answer, given, refused}
use Rattle.dshot_reply_spec.specs.Refusals.{no_reply, overlong}

-- ---- the source's constants; document 01 names the same numbers

-- bits in a reply, with the start edge
abbrev pub REPLY_BITS : ℕ
REPLY_BITS = 21

-- the least number of samples from the start on: two bits short of a whole reply (57 at 3 samples a bit)
abbrev pub MIN_REPLY_SAMPLES : ℕ → ℕ
MIN_REPLY_SAMPLES s = 19 * s

-- the number of samples that are read from the start on: two bits past a reply's end (69 at 3 samples a bit)
abbrev pub MAX_REPLY_SAMPLES : ℕ → ℕ
MAX_REPLY_SAMPLES s = 23 * s

-- If there are fewer bits than this between the edges, there is no reply.
abbrev pub MIN_EDGE_BITS : ℕ
MIN_EDGE_BITS = 18

-- ---- runs

-- a sample is high if any pin of the mask is set in it
abbrev pub high : ℕ → ℕ → Bool
high mask sample = not (eqb (bit_and sample mask) 0)

-- the level of each sample
abbrev pub levels : ℕ → List ℕ → List Bool
levels mask samples = map (high mask) samples

-- the place of the first low sample; the number of samples if none is low
abbrev pub first_low : List Bool → ℕ
first_low [] = 0
first_low (true ∷ bs) = suc (first_low bs)
first_low (false ∷ bs) = 0

-- the lengths of the finished runs, after n samples of the present level l
abbrev pub finished : Bool → ℕ → List Bool → List ℕ
finished l n [] = []
finished true n (true ∷ bs) = finished true (suc n) bs
finished true n (false ∷ bs) = n ∷ finished false 1 bs
finished false n (false ∷ bs) = finished false (suc n) bs
finished false n (true ∷ bs) = n ∷ finished true 1 bs

-- the number of bits that a run of n samples stands for: rounded to the nearest, and at least one
abbrev pub run_bits : ℕ → ℕ → ℕ
run_bits s n = max 1 ((n + (s - 1) / 2) / s)

abbrev pub sum : List ℕ → ℕ
sum [] = 0
sum (k ∷ ks) = k + sum ks

-- the bits w, and after them a 1 and k - 1 zeros for each run of k bits
abbrev pub runs_word : ℕ → List ℕ → ℕ
runs_word w [] = w
runs_word w (k ∷ ks) = runs_word (w * 2 ^ k + 2 ^ (k - 1)) ks

-- the runs, with the missing bits of the reply as one last run
abbrev pub complete : List ℕ → List ℕ
complete ks = if ltb (sum ks) REPLY_BITS then ks ++ ((REPLY_BITS - sum ks) ∷ []) else ks

-- the transition bits of a reply, given the bits of its finished runs
unfoldable pub assemble : List ℕ → Answer ℕ
assemble ks =
    if ltb REPLY_BITS (sum ks) then refused overlong else
    if ltb (sum ks) MIN_EDGE_BITS then refused no_reply else
    given (runs_word 0 (complete ks))

-- the bits of each finished run in the levels that are read; the first run is low
abbrev pub runs_of : ℕ → List Bool → List ℕ
runs_of s ls = map (run_bits s) (finished false 0 ls)

-- The start is the first low sample. If too few samples follow it, there is no reply.
unfoldable pub from_levels : ℕ → List Bool → Answer ℕ
from_levels s ls =
    if leb (MIN_REPLY_SAMPLES s) (length ls - first_low ls)
    then assemble (runs_of s (take (MAX_REPLY_SAMPLES s) (drop (first_low ls) ls)))
    else refused no_reply

-- the transition bits in samples, at the pins of a mask
unfoldable pub transitions_of : ℕ → List ℕ → ℕ → Answer ℕ
transitions_of s samples mask = from_levels s (levels mask samples)
