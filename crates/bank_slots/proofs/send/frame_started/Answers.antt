-- `bank_slots::send::frame_started` meets its contract: a frame set that starts: marks turned, in flight, and its request carried.
-- Assumes nothing.
use Rattle.std.proofs.Common.{true, not, ap}
use Rattle.bank_slots_spec.proofs.SendMoves.{frame-starts, none-carried}
use Rattle.bank_slots.proofs.send.frame_started.Goals as goal

pub returns-then-ordinary : goal.returns-then-ordinary
returns-then-ordinary c = rw c.if-ordinary.true (frame-starts c.args.now_ms true c.turn_marks.ensures c.mark_in_flight.ensures c.carry.ensures)

pub returns-else-ordinary : goal.returns-else-ordinary
returns-else-ordinary c =
    let a = c.args in
    frame-starts a.now_ms a.ordinary c.turn_marks.ensures c.mark_in_flight.ensures (none-carried _ c.mark_in_flight.array_long a.ordinary (ap not c.if-ordinary.false))
