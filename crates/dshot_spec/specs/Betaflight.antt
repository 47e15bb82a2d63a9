-- A DShot frame as Betaflight's DShot documentation describes it, bit by bit as it goes over the wire. It is written from what is known of that
-- documentation, not from the code. The documentation's text was not at hand (docs/DIFFERENCES.md).
-- Assumes nothing.
use Rattle.std.specs.Prelude.{ℕ, zero, suc, ◌+◌, ◌-◌, ◌*◌, ◌/◌, ◌%◌, ◌^◌, ◌≤◌, Bool, true, false, List, [], ◌∷◌, ◌++◌, bit_xor}

-- the lowest n bits of a number, the highest of them first
abbrev pub bits : ℕ → ℕ → List ℕ
bits zero x = []
bits (suc n) x = x / 2 ^ n % 2 ∷ bits n x

-- the bit of the telemetry request
abbrev pub request : Bool → ℕ
request true = 1
request false = 0

-- The checksum of the twelve bits x before it: (x ^ (x >> 4) ^ (x >> 8)) & 0x0F. Bidirectional DShot inverts it: ~(..) & 0x0F.
unfoldable pub crc : Bool → ℕ → ℕ
crc false x = bit_xor (bit_xor x (x / 16)) (x / 256) % 16
crc true x = 15 - bit_xor (bit_xor x (x / 16)) (x / 256) % 16

-- a frame: eleven bits of value, the telemetry request and four bits of checksum
unfoldable pub frame_bits : Bool → ℕ → Bool → List ℕ
frame_bits bidirectional value telemetry = bits 11 value ++ (request telemetry ∷ bits 4 (crc bidirectional (value * 2 + request telemetry)))

-- how many eighths of a bit's time the line is high: 37.5 % for a 0 and 75 % for a 1
abbrev pub high_eighths : Bool → ℕ
high_eighths false = 3
high_eighths true = 6

-- The count is the number of ticks nearest to so many eighths of a period: at most half a tick too small or too large.
pub record NearestTick (count eighths period : ℕ) : Type 0 where
  pub most : 8 * count ≤ eighths * period + 4
  pub least : eighths * period ≤ 8 * count + 4
