-- `bank_slots::replies::decode_replies` meets its contract: the windows of the lanes so far are read and counted.
use Rattle.std.proofs.Common.{◌≡◌}
use Rattle.dshot_bank_spec.specs.Lanes.{each}
use Rattle.bank_slots.proofs.Windows.{lane_read}
use Rattle.bank_slots.proofs.replies.decode_replies.Given as goal

abbrev pub invariant-loop-lane : goal.invariant-loop-lane
invariant-loop-lane l = l.state ≡ each l.lane (lane_read l.lanes l.captures) l.initial.state
