-- `bank_slots::looks::take_replies` meets its contract: the replies of the lanes so far are handed out.
use Rattle.std.proofs.Common.{◌≡◌}
use Rattle.dshot_bank_spec.specs.Lanes.{each}
use Rattle.bank_slots.proofs.Copied.{reply_handed}
use Rattle.bank_slots.proofs.looks.take_replies.Given as goal

abbrev pub invariant-loop-lane : goal.invariant-loop-lane
invariant-loop-lane l = l.out ≡ each l.lane (reply_handed l.state l.held) l.initial.out
