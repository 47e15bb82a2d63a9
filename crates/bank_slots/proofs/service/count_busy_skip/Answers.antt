-- `bank_slots::service::count_busy_skip` meets its contract: one more in the count of busy services.
-- Assumes nothing.
use Rattle.std.proofs.Common.{sym}
use Rattle.bank_slots_spec.proofs.MoveLaws.{moves-at}
use Rattle.bank_slots_spec.proofs.ServiceMoves.{busy-skip-counted}
use Rattle.bank_slots.proofs.service.count_busy_skip.Goals as goal

pub returns : goal.returns
returns c =
    moves-at (sym c.bump.ensures) (busy-skip-counted c.args.state.now c.told-state)
