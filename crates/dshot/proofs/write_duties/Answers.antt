-- `dshot::write_duties` meets its contract: before each turn of the loop the slots so far are filled.
-- Assumes nothing.
use Rattle.std.proofs.Common.{refl}
use Rattle.dshot_spec.proofs.Tabulated.{filled_none, filled_more}
use Rattle.dshot.proofs.write_duties.Goals as goal

pub loop-index-init : goal.loop-index-init
loop-index-init c = filled_none refl

pub loop-index-preserved : goal.loop-index-preserved
loop-index-preserved c = filled_more c.loop-index.invariant c.loop-index-test.true c.duty_slot.ensures
