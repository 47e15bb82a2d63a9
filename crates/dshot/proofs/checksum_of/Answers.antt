-- `dshot::checksum_of` meets its contract.
-- Assumes nothing.
use Rattle.std.proofs.Common.{mod-lt, lit<}
use Rattle.dshot_spec.proofs.PacketReads.{checksum-cut}
use Rattle.dshot.proofs.checksum_of.Goals as goal

pub returns : goal.returns
returns c = (checksum-cut c.args.payload, mod-lt _ (lit< tt))
