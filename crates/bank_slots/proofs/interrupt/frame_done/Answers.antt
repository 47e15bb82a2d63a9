-- `bank_slots::interrupt::frame_done` meets its contract: a frame set's slots after it is done.
-- Assumes nothing.
use Rattle.std.proofs.Common.{sym}
use Rattle.bank_slots_spec.proofs.MoveLaws.{moves-at}
use Rattle.bank_slots_spec.proofs.InterruptMoves.{frame-done}
use Rattle.bank_slots.proofs.interrupt.frame_done.Goals as goal

pub returns : goal.returns
returns c = moves-at (sym c.bump.ensures) (frame-done c.args.state.now c.told-state)
