-- A value as the Extended DShot Telemetry (EDT) specification reads it. It is written from what is known of the specification, not from the code. The
-- specification's text was not at hand (docs/DIFFERENCES.md).
-- Assumes nothing.
use Rattle.std.specs.Prelude.{ℕ, ◌/◌, ◌%◌, Bool, true, false, eqb, if◌then◌else◌}
use Rattle.dshot_reply_spec.specs.Answer.{Answer, given}
use Rattle.dshot_reply_spec.specs.Value.{Reading, temp, volt, amp, debug, state, edt}
use Rattle.dshot_reply_spec.specs.Betaflight.{speed}

-- The type of a 12-bit value is its top nibble: the exponent and the top bit of the nine. If an ESC sends typed frames, it sends each speed with that
-- bit set or with exponent 0. So a type that is odd or 0 is a speed.
abbrev pub frame_type : ℕ → ℕ
frame_type v = v / 256

abbrev pub is_speed : ℕ → Bool
is_speed t = if eqb (t % 2) 1 then true else eqb t 0

-- The typed frames: degrees Celsius, quarter volts, amperes, three debug values, and the state with its events. Type 0xC is the third debug value, as
-- in the versions before it became the stress level.
unfoldable pub typed : ℕ → ℕ → Reading
typed t n =
    if eqb t 0x2 then temp n else
    if eqb t 0x4 then volt n else
    if eqb t 0x6 then amp n else
    if eqb t 0x8 then debug 1 n else
    if eqb t 0xa then debug 2 n else
    if eqb t 0xc then debug 3 n else
    state n

-- With EDT on, a typed frame is a reading, and every other value is a speed. With EDT off, 0xE00 acknowledges the command to turn EDT on, and every
-- other value is a speed.
unfoldable pub edt_reply : ℕ → Bool → Answer Reading
edt_reply v true = if is_speed (frame_type v) then speed v else given (typed (frame_type v) (v % 256))
edt_reply v false = if eqb v 0xe00 then given edt else speed v
