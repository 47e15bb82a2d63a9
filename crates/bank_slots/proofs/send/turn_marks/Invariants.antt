-- `bank_slots::send::turn_marks` meets its contract: the marks of the lanes so far have turned.
use Rattle.std.proofs.Common.{◌≡◌, ◌+◌, ◌-◌}
use borrow.Rule.Slice.PartMut.{put_mid}
use Rattle.dshot_bank_spec.specs.Lanes.{each}
use Rattle.bank_slots_spec.specs.Places.{IN_SECOND}
use Rattle.bank_slots.proofs.Lanes.{mark_turned}
use Rattle.bank_slots.proofs.send.turn_marks.Given as goal

abbrev pub invariant-loop-mark : goal.invariant-loop-mark
invariant-loop-mark l = put_mid IN_SECOND (IN_SECOND + l.turned - IN_SECOND) l.fn.state l.mark-items ≡ each l.mark-index mark_turned l.fn.state
