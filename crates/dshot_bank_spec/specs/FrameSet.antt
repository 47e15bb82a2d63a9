-- What a bank sends: the values of a frame set, its packets, and their sequences in the spare buffers.
-- Stands for what `send_requested` sends, of crates/ferrowasp-stm32-critical/src/dshot_bank.rs (Eirik2020/ferro-wasp, commit 9cb8aca1a6, Copyright
-- (c) 2026 Kaldstrand, Apache-2.0), changed: rewritten as definitions, over n lanes. Two buffers and a mark per lane stand for the source's exchanged
-- buffers, so no spare can be missing.
-- Assumes nothing.
use Rattle.std.specs.Prelude.{ℕ, ◌*◌, Bool, false, List, ◌++◌, get_or, set, take, drop, replicate, if◌then◌else◌}
use Rattle.std.proofs.Math.Option.{Option, none, some}
use Rattle.dshot_spec.specs.Tabulate.{tabulate}
use Rattle.dshot_spec.specs.Timing.{Timing}
use Rattle.dshot_spec.specs.Packet.{Kind, plain, inverted, TelemetryLane, motor_packets}
use Rattle.dshot_spec.specs.Packet as Packet
use Rattle.dshot_spec.specs.Sequence.{sequence_of}
use Rattle.dshot_bank_spec.specs.Lanes.{each}
use Rattle.dshot_bank_spec.specs.State.{Core, Buffers}
use Rattle.dshot_bank_spec.specs.Commands.{MotorCommand, next_command_frame}

-- ---- what is sent

-- the values of the lanes, the lane with the telemetry bit, and the telemetry request that the set carries
pub record FrameSet : Type 0 where
  pub values : List ℕ
  pub telemetry_lane : TelemetryLane
  pub telemetry_request : Option ℕ

abbrev pub as_lane : Option ℕ → TelemetryLane
as_lane none = Packet.none
as_lane (some motor) = Packet.lane motor

-- A command has the telemetry bit on its own lane. So a pending request waits for the next frame without a command.
abbrev pub frame_set : ℕ → Core → Option MotorCommand → FrameSet
frame_set n c (some m) = record { values = set (replicate n 0) m.motor m.command; telemetry_lane = Packet.lane m.motor; telemetry_request = none }
frame_set n c none = record { values = c.demand.requested_values; telemetry_lane = as_lane c.telemetry.request; telemetry_request = c.telemetry.request }

-- the frame set that a bank sends next
abbrev pub next_set : ℕ → Core → FrameSet
next_set n c = frame_set n c (next_command_frame c).command

-- the checksum of the packets: inverted in a bidirectional bank
abbrev pub kind_sent : Core → Kind
kind_sent c = if c.frame.bidirectional then inverted else plain

-- the packets of the frame set that a bank sends next
abbrev pub packets_sent : ℕ → Core → List ℕ
packets_sent n c = motor_packets n (kind_sent c) (next_set n c).values (next_set n c).telemetry_lane

-- ---- sequences

-- the first duty of each lane's sequence
abbrev pub first_duties : ℕ → Timing → List ℕ → List ℕ
first_duties n t packets = tabulate n (λ i. (sequence_of t (get_or packets i 0)).first)

-- a buffer with the 16 slots from slot 16 × lane on replaced
abbrev pub put_slots : ℕ → List ℕ → List ℕ → List ℕ
put_slots lane slots buffer = take (16 * lane) buffer ++ (slots ++ drop 16 (drop (16 * lane) buffer))

-- A lane's sequence is written into its spare. If the lane sends from the second buffer, its spare is the first.
abbrev pub write_spare : Bool → ℕ → List ℕ → Buffers → Buffers
write_spare in_second lane slots b =
    if in_second
    then record { first = put_slots lane slots b.first; second = b.second }
    else record { first = b.first; second = put_slots lane slots b.second }

-- lane i's sequence written into its spare
abbrev pub encode_lane : Timing → List Bool → List ℕ → ℕ → Buffers → Buffers
encode_lane t in_second packets i b = write_spare (get_or in_second i false) i (sequence_of t (get_or packets i 0)).slots b

-- every lane's sequence written into its spare
unfoldable pub encode_lanes : ℕ → Timing → List Bool → List ℕ → Buffers → Buffers
encode_lanes n t in_second packets b = each n (encode_lane t in_second packets) b
