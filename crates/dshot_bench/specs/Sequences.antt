-- The sequences of four packets, one after the other, as the benchmark needs them.
-- Assumes nothing.
use Rattle.std.specs.Prelude.{ℕ, zero, suc, List, [], ◌++◌, eqb, length, get_or, if◌then◌else◌}
use Rattle.dshot_reply_spec.specs.Answer.{Answer, given, refused}
use Rattle.dshot_reply_spec.specs.Refusals.{wrong_length}
use Rattle.dshot_spec.specs.Packet.{inverted, TelemetryLane, motor_packets}
use Rattle.dshot_spec.specs.Sequence.{sequence_of}
use Rattle.dshot_spec.specs.Tabulate.{tabulate}
use Rattle.dshot_spec.specs.Timing.{Timing}

-- a timing by its counts
abbrev pub timing_of_counts : ℕ → ℕ → ℕ → ℕ → Timing
timing_of_counts arr low high sample = record { arr = arr; zero_high = low; one_high = high; reply_sample_arr = sample }

-- the words of the packets; if a buffer has another length, the refusal is 13 (wrong length)
unfoldable pub built : List ℕ → TelemetryLane → List ℕ → List ℕ → Answer (List ℕ)
built values telemetry_lane slots firsts =
    if eqb (length values) 4 then
    (if eqb (length slots) 64 then
    (if eqb (length firsts) 4 then given (motor_packets 4 inverted values telemetry_lane) else
    refused wrong_length) else
    refused wrong_length) else
    refused wrong_length

-- f 0, f 1, up to f (n - 1), joined
unfoldable pub joined : ℕ → (ℕ → List ℕ) → List ℕ
joined zero f = []
joined (suc n) f = joined n f ++ f n

-- the slots of the words' sequences
abbrev pub slots_of : Timing → List ℕ → List ℕ
slots_of t words = joined 4 (λ i. (sequence_of t (get_or words i 0)).slots)

-- the first duties of the words' sequences
abbrev pub firsts_of : Timing → List ℕ → List ℕ
firsts_of t words = tabulate 4 (λ i. (sequence_of t (get_or words i 0)).first)
