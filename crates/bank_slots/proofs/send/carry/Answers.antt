-- `bank_slots::send::carry` meets its contract: a request that is carried, or none.
-- Assumes nothing.
use Rattle.std.proofs.Common.{true, refl}
use Rattle.bank_slots_spec.proofs.SendMoves.{no-request, request-carried}
use Rattle.bank_slots.proofs.send.carry.Goals as goal

pub returns-then-request-ne0 : goal.returns-then-request-ne0
returns-then-request-ne0 c = request-carried c.args.state.now c.told-state true refl c.if-request-ne0.true

pub returns-else-request-ne0 : goal.returns-else-request-ne0
returns-else-request-ne0 c = no-request c.args.state.now c.told-state true c.if-request-ne0.false
