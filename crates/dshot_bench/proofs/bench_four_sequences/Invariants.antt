-- `dshot_bench::bench_four_sequences` meets its contract: before each turn of the loop the sequences of the lanes so far stand in their parts.
use Rattle.std.proofs.Common.{ℕ, List, get_or}
use Rattle.dshot_spec.proofs.Tabulated.{Filled}
use Rattle.dshot_spec.specs.Sequence.{sequence_of}
use Rattle.dshot_spec.specs.Timing.{Timing}
use Rattle.dshot.specs.Answers.{timing_of, words}
use Rattle.dshot_bench.proofs.JoinedLaws.{Joined}
use Rattle.dshot_bench.proofs.bench_four_sequences.Given as goal

-- the slots of a word's sequence, and its first duty, by the place of the word
abbrev pub slots_at : Timing → List ℕ → ℕ → List ℕ
slots_at t ws i = (sequence_of t (get_or ws i 0)).slots

abbrev pub first_at : Timing → List ℕ → ℕ → ℕ
first_at t ws i = (sequence_of t (get_or ws i 0)).first

abbrev pub invariant-loop-lane : goal.invariant-loop-lane
invariant-loop-lane l =
    Filled 4 (first_at (timing_of l.timing) (words l.packet-items)) l.initial.firsts l.lane l.firsts
    × Joined 16 4 (slots_at (timing_of l.timing) (words l.packet-items)) l.initial.slots l.lane l.slots
