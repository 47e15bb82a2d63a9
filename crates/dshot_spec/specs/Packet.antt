-- The packet word of a value and a telemetry bit, and what a packet word says.
-- Stands for `DshotPacket` and `four_motor_packets` with its bidirectional form, of crates/ferrowasp-output/src/dshot.rs (Eirik2020/ferro-wasp,
-- commit 9cb8aca1a6, Copyright (c) 2026 Kaldstrand, Apache-2.0), changed: rewritten as definitions. Document 01 adds the reader.
-- Assumes nothing.
use Rattle.std.specs.Prelude.{ℕ, ◌+◌, ◌*◌, ◌/◌, ◌%◌, Bool, true, false, List, ◌==◌, bit_xor, nat_lt, slice_index, if◌then◌else◌}
use Rattle.dshot_reply_spec.specs.Answer.{Answer, given, refused}
use Rattle.dshot_reply_spec.specs.Refusals.{value_out_of_range, wrong_packet_checksum}
use Rattle.dshot_spec.specs.Tabulate.{tabulate}

-- how the checksum is sent: as it is, or inverted; the inverted one asks a bidirectional ESC to answer
pub data Kind : Type 0 where
  plain : Kind
  inverted : Kind

-- whether the checksum is inverted
abbrev pub is_inverted : Kind → Bool
is_inverted plain = false
is_inverted inverted = true

-- what a packet says
pub record Frame : Type 0 where
  pub value : ℕ
  pub telemetry : Bool
  pub kind : Kind

-- a flag as a bit
abbrev pub flag : Bool → ℕ
flag true = 1
flag false = 0

-- the lowest eleven bits of the value, with the telemetry bit below them
abbrev pub payload : ℕ → Bool → ℕ
payload value telemetry = 2 * (value % 2048) + flag telemetry

-- the exclusive or of a payload's three nibbles
abbrev pub checksum : ℕ → ℕ
checksum p = bit_xor (bit_xor (p % 16) (p / 16 % 16)) (p / 256 % 16)

-- the checksum as it is sent
abbrev pub sent : Kind → ℕ → ℕ
sent plain c = c
sent inverted c = bit_xor c 15

-- the packet word: the payload, and below it four bits of checksum as it is sent
unfoldable pub packet_word : Kind → ℕ → Bool → ℕ
packet_word kind value telemetry = 16 * payload value telemetry + sent kind (checksum (payload value telemetry))

-- the plain packet of a value that fits in eleven bits; a larger value is refused with 5 (value out of range)
unfoldable pub try_packet : ℕ → Bool → Answer ℕ
try_packet value telemetry = if nat_lt 2047 value then refused value_out_of_range else given (packet_word plain value telemetry)

-- ---- the packets of n motors

-- the lane that is asked for telemetry
pub data TelemetryLane : Type 0 where
  none : TelemetryLane
  lane : ℕ → TelemetryLane

-- whether lane i is asked
abbrev pub asks : TelemetryLane → ℕ → Bool
asks none i = false
asks (lane l) i = l == i

-- the packet of each of n lanes; if the telemetry lane is none of them, no packet has the telemetry bit
unfoldable pub motor_packets : ℕ → Kind → List ℕ → TelemetryLane → List ℕ
motor_packets n kind values telemetry_lane = tabulate n (λ i. packet_word kind (slice_index values i) (asks telemetry_lane i))

-- ---- the reader

-- what a payload says
abbrev pub frame_of : Kind → ℕ → Frame
frame_of kind p = record { value = p / 2; telemetry = (p % 2 == 1); kind = kind }

-- The value, the telemetry bit and the kind of checksum of a packet word. If neither checksum fits, the refusal is 15 (packet checksum).
unfoldable pub read_packet : ℕ → Answer Frame
read_packet w =
    if w % 16 == checksum (w / 16) then given (frame_of plain (w / 16)) else
    if w % 16 == sent inverted (checksum (w / 16)) then given (frame_of inverted (w / 16)) else
    refused wrong_packet_checksum
