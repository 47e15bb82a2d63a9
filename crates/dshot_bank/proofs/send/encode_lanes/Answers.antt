-- `dshot_bank::send::encode_lanes` meets its contract.
-- Assumes nothing.
use Rattle.std.proofs.Common.{ℕ, false, get_or, sym, refl, ap, ◌∙◌}
use lib.ListN.{get_or-map}
use Rattle.dshot_bank_spec.proofs.LaneLaws.{each_none, each_more, each_all}
use Rattle.dshot_spec.proofs.Tabulated.{filled_none, filled_more, filled-all}
use Rattle.dshot_spec.specs.Sequence.{sequence_of}
use Rattle.dshot.specs.declared.DshotPacket.{DshotPacket}
use Rattle.dshot.specs.Answers.{timing_of}
use Rattle.dshot_bank_spec.specs.FrameSet.{write_spare, encode_lanes}
use Rattle.dshot_bank.proofs.send.encode_lanes.Goals as goal

pub loop-lane-init : goal.loop-lane-init
loop-lane-init c = record { duties = filled_none refl; buffers = each_none _ _ }

pub loop-lane-preserved : goal.loop-lane-preserved
loop-lane-preserved c =
    let a = c.args in
    let l = c.loop-lane in
    let t = timing_of a.timing in
    let word = sym (get_or-map (λ (p : DshotPacket). p.0) a.packets l.lane (record { 0 = 0 })) in
    let put = c.write_spare.ensures in
    record {
      duties = filled_more l.invariant.duties c.loop-lane-test.true (put.value ∙ ap (λ (w : ℕ). (sequence_of t w).first) word);
      buffers = each_more _ _ _ l.invariant.buffers
          (put.fact ∙ ap (λ (w : ℕ). write_spare (get_or a.in_second l.lane false) l.lane (sequence_of t w).slots (record { first = l.first; second = l.second })) word);
    }

pub returns : goal.returns
unfolding encode_lanes
returns c =
    let h = c.loop-lane.invariant in
    record { value = filled-all h.duties c.loop-lane-test.false; fact = each_all _ _ h.duties.within c.loop-lane-test.false h.buffers }
