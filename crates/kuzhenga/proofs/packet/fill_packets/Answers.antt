-- `kuzhenga::packet::fill_packets` keeps its invariant: one more packet is in its slot.
-- Assumes nothing.
use Rattle.dshot_spec.proofs.Tabulated.{filled_more}
use Rattle.kuzhenga.proofs.packet.fill_packets.Goals as goal

pub loop-index-preserved : goal.loop-index-preserved
loop-index-preserved c = filled_more c.loop-index.invariant c.loop-index-test.true c.of_kind.ensures
