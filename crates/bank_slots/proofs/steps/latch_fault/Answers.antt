-- `bank_slots::steps::latch_fault` meets its contract: a latched fault, part by part.
-- Assumes nothing.
use Rattle.bank_slots_spec.proofs.FaultMoves.{fault-latched}
use Rattle.bank_slots.proofs.steps.latch_fault.Goals as goal

pub returns : goal.returns
returns c = fault-latched c.args.spurious c.count_fault.ensures c.latch_flags.ensures c.clear_requests.ensures c.stop.ensures
