-- `bank_slots::service::end_lease` meets its contract: a lease that has ended.
-- Assumes nothing.
use Rattle.std.proofs.Common.{true, sym, refl}
use Rattle.bank_slots_spec.proofs.MoveLaws.{moves-at}
use Rattle.bank_slots_spec.proofs.ServiceMoves.{lease-ended}
use Rattle.bank_slots.proofs.service.end_lease.Goals as goal

pub returns : goal.returns
returns c = moves-at (sym c.bump.ensures) (lease-ended true _ c.stop.array_long refl c.stop.ensures)
