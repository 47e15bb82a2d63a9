-- `dshot_bench::bench_four_sequences` meets its contract: before each turn of the loop the sequences of the lanes so far stand in their parts.
-- Assumes nothing.
use Rattle.std.proofs.Common.{◌≡◌, ℕ, get_or, sym, ap}
use Rattle.std.proofs.Math.ListN.{get_or-map}
use Rattle.dshot_spec.proofs.SequenceReads.{sequence-slots}
use Rattle.dshot_spec.proofs.Tabulated.{filled_none, filled_more}
use Rattle.dshot_spec.specs.Sequence.{sequence_of}
use Rattle.dshot.specs.Answers.{words}
use Rattle.dshot.specs.declared.DshotPacket.{DshotPacket}
use Rattle.dshot_bench.specs.Sequences.{timing_of_counts}
use Rattle.dshot_bench.proofs.JoinedLaws.{joined-none, joined-more}
use Rattle.dshot_bench.proofs.bench_four_sequences.Goals as goal

abbrev none : DshotPacket
none = record { 0 = 0 }

pub loop-lane-init : goal.loop-lane-init
loop-lane-init c = (filled_none c.if-firsts-ne4.false, joined-none c.if-slots-ne64.false)

pub loop-lane-preserved : goal.loop-lane-preserved
loop-lane-preserved c =
    let a = c.args in
    let l = c.loop-lane in
    let packets = c.four_motor_bidirectional_packets-packets.result in
    let t = timing_of_counts a.arr a.zero_high a.one_high a.reply_sample_arr in
    let word : (get_or packets l.lane none).0 ≡ get_or (words packets) l.lane 0 = sym (get_or-map (λ (p : DshotPacket). p.0) packets l.lane none) in
    let put = c.put_sequence.ensures in
    let test = c.loop-lane-test.true in (
      rw put.firsts_after (filled_more l.invariant.0 test (ap (λ (w : ℕ). (sequence_of t w).first) word)),
      joined-more (λ k. sequence-slots t (get_or (words packets) k 0)) l.invariant.1 test put.slots_after (ap (λ (w : ℕ). (sequence_of t w).slots) word),
    )
