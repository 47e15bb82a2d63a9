-- `dshot_bank::replies::read_windows` meets its contract.
-- Assumes nothing.
use Rattle.std.proofs.Common.{refl}
use Rattle.dshot_spec.proofs.Tabulated.{filled_none, filled_more, filled-all}
use Rattle.dshot_bank_spec.proofs.LaneLaws.{map-set}
use Rattle.dshot_bank.specs.States.{stored_answer}
use Rattle.dshot_bank.proofs.replies.read_windows.Goals as goal

pub loop-lane-init : goal.loop-lane-init
loop-lane-init c = filled_none refl

pub loop-lane-preserved : goal.loop-lane-preserved
loop-lane-preserved c =
    rw (map-set stored_answer c.loop-lane.reads c.loop-lane.lane c.read_window.result)
    (filled_more c.loop-lane.invariant c.loop-lane-test.true c.read_window.ensures)

pub returns : goal.returns
returns c = filled-all c.loop-lane.invariant c.loop-lane-test.false
