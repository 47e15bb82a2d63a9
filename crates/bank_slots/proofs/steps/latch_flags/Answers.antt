-- `bank_slots::steps::latch_flags` meets its contract: the flags of a latched fault.
-- Assumes nothing.
use Rattle.bank_slots_spec.proofs.FaultMoves.{flags-latched}
use Rattle.bank_slots.proofs.steps.latch_flags.Goals as goal

pub returns : goal.returns
returns c = flags-latched c.args.state.now c.told-state
