-- `dshot::write_duties` meets its contract: before each turn of the loop the slots so far are filled.
use Rattle.std.proofs.Common.{length}
use Rattle.dshot_spec.proofs.Tabulated.{Filled}
use Rattle.dshot.specs.Steps.{slot}
use Rattle.dshot.proofs.write_duties.Given as goal

abbrev pub invariant-loop-index : goal.invariant-loop-index
invariant-loop-index l = Filled (length l.initial.output) (slot l.packet.0 l.bits l.zero l.one) l.initial.output l.index l.output
