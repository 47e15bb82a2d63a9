-- The kind of a reading as a number, and the number that the reading carries. They are the last two fields of the bench's line in document 01.
-- Assumes nothing.
use Rattle.std.specs.Prelude.{ℕ, eqb, if◌then◌else◌}
use Rattle.dshot_reply_spec.specs.Value.{Reading, erpm, temp, volt, amp, debug, state, edt}

-- The kinds of the debug channels 1 to 3. Another channel gets 9, which is no kind. No reading of the library has such a channel.
unfoldable pub debug_kind : ℕ → ℕ
debug_kind channel =
    if eqb channel 1 then 4 else
    if eqb channel 2 then 5 else
    if eqb channel 3 then 6 else
    9

-- the kinds in the order of document 01's line: erpm, temp, volt, amp, debug1 to debug3, state, edt
abbrev pub kind_number : Reading → ℕ
kind_number (erpm n) = 0
kind_number (temp n) = 1
kind_number (volt n) = 2
kind_number (amp n) = 3
kind_number (debug channel n) = debug_kind channel
kind_number (state n) = 7
kind_number edt = 8

-- the number that a reading carries; the acknowledgement carries none
abbrev pub reading_number : Reading → ℕ
reading_number (erpm n) = n
reading_number (temp n) = n
reading_number (volt n) = n
reading_number (amp n) = n
reading_number (debug channel n) = n
reading_number (state n) = n
reading_number edt = 0
