-- `bank_slots::interrupt::window_opened` meets its contract: the slots of a receive window that opens.
-- Assumes nothing.
use Rattle.std.proofs.Common.{sym}
use Rattle.bank_slots_spec.proofs.MoveLaws.{moves-at}
use Rattle.bank_slots_spec.proofs.InterruptMoves.{window-opened}
use Rattle.bank_slots.proofs.interrupt.window_opened.Goals as goal

pub returns : goal.returns
returns c = moves-at (sym c.put_word.ensures) (window-opened c.args.state.now c.told-state)
