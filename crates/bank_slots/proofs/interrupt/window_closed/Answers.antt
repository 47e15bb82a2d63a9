-- `bank_slots::interrupt::window_closed` meets its contract: the slots of a receive window that closes.
-- Assumes nothing.
use Rattle.bank_slots_spec.proofs.InterruptMoves.{window-closed}
use Rattle.bank_slots.proofs.interrupt.window_closed.Goals as goal

pub returns : goal.returns
returns c = window-closed c.args.state.now c.told-state c.frame_done.ensures
