-- `bank_slots::send::mark_in_flight` meets its contract: the slots of a frame set in flight.
-- Assumes nothing.
use Rattle.std.proofs.Common.{rules}
use Rattle.bank_slots_spec.proofs.SendMoves.{in-flight}
use Rattle.bank_slots.proofs.send.mark_in_flight.Goals as goal

pub returns : goal.returns
returns c = in-flight c.args.state.now c.told-state c.args.now_ms c.put_long.ensures c.put_word.ensures c.bump.ensures (search rules)
