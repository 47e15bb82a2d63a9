-- `dshot_bank::send::encode_lanes` meets its contract: before each turn the lanes so far are written, and their first duties kept.
use Rattle.std.proofs.Common.{◌≡◌, ℕ, get_or}
use Rattle.dshot_spec.proofs.Tabulated.{Filled}
use Rattle.dshot_spec.specs.Sequence.{sequence_of}
use Rattle.dshot.specs.Answers.{timing_of, words}
use Rattle.dshot_bank_spec.specs.Lanes.{each}
use Rattle.dshot_bank_spec.specs.State.{Buffers}
use Rattle.dshot_bank_spec.specs.FrameSet.{encode_lane}
use Rattle.dshot_bank.proofs.send.encode_lanes.Given as goal

abbrev pub invariant-loop-lane : goal.invariant-loop-lane
invariant-loop-lane l = record {
  duties : Filled 4 (λ (i : ℕ). (sequence_of (timing_of l.timing) (get_or (words l.packets) i 0)).first) l.initial.duties l.lane l.duties;
  buffers : ◌≡◌ {A = Buffers} (record { first = l.first; second = l.second }) (each l.lane (encode_lane (timing_of l.timing) l.in_second (words l.packets)) (record { first = l.initial.first; second = l.initial.second }));
}
