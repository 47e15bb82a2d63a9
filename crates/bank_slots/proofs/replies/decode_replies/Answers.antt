-- `bank_slots::replies::decode_replies` meets its contract: the four lanes read and counted, one after another.
-- Assumes nothing.
use Rattle.std.proofs.Common.{sym, arith}
use Rattle.dshot_bank_spec.proofs.LaneLaws.{each_none, each_more, each_all}
use Rattle.bank_slots_spec.proofs.MoveLaws.{moves-at}
use Rattle.bank_slots.proofs.Windows.{lane_read, all-read}
use Rattle.bank_slots.proofs.replies.decode_replies.Goals as goal

pub loop-lane-init : goal.loop-lane-init
loop-lane-init c = each_none _ _

pub loop-lane-preserved : goal.loop-lane-preserved
loop-lane-preserved c = each_more _ _ _ c.loop-lane.invariant c.decode_lane.ensures

pub returns : goal.returns
returns c =
    let a = c.args in
    moves-at (sym (each_all (lane_read a.lanes.now a.captures.now) _ (omega arith) c.loop-lane-test.false c.loop-lane.invariant)) (all-read a.lanes.now a.captures.now a.state.now c.told-state)
