-- `kuzhenga::packet::fill_packets` meets its contract: before each turn of the loop the packets of the lanes so far are in their slots.
use Prim.Native.Nat.{ℕ}
use lib.ListN.{get_or}
use Rattle.dshot_spec.specs.Packet.{packet_word, lane, asks}
use Rattle.dshot.specs.Answers.{kind_of}
use Rattle.dshot_spec.proofs.Tabulated.{Filled}
use Rattle.kuzhenga.proofs.packet.fill_packets.Given as goal

abbrev pub invariant-loop-index : goal.invariant-loop-index
invariant-loop-index l = Filled 4 (λ (i : ℕ). packet_word (kind_of l.kind) (get_or l.values i 0) (asks (lane l.telemetry_lane) i)) l.initial.packets l.index l.packets
