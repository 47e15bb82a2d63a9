-- `bank_slots::commands::from_lanes` meets its contract: the lanes so far have no reply.
use Rattle.std.proofs.Common.{◌≡◌}
use Rattle.dshot_bank_spec.specs.Lanes.{each}
use Rattle.bank_slots.proofs.NewBank.{with_no_reply}
use Rattle.bank_slots.proofs.commands.from_lanes.Given as goal

abbrev pub invariant-loop-lane : goal.invariant-loop-lane
invariant-loop-lane l = l.state ≡ each l.lane with_no_reply l.initial.state
