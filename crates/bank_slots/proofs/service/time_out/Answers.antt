-- `bank_slots::service::time_out` meets its contract: a frame that has timed out: its count, and the latched fault.
-- Assumes nothing.
use Rattle.bank_slots_spec.proofs.ServiceMoves.{timed-out}
use Rattle.bank_slots.proofs.service.time_out.Goals as goal

pub returns : goal.returns
returns c =
    timed-out c.args.state.now c.told-state c.bump.ensures c.latch_fault.ensures
