-- The meaning of a checked 12-bit value: a speed, a reading, or the
-- acknowledgement of extended telemetry (EDT).
-- Stands for `DshotReply::from_value` of crates/ferrowasp-output/src/dshot_reply.rs (Eirik2020/ferro-wasp, commit
-- 9cb8aca1a6, Copyright (c) 2026 Kaldstrand, Apache-2.0), changed: rewritten as a definition.
-- Assumes nothing.
use Rattle.std.specs.Prelude.{ℕ, ◌-◌, ◌*◌, ◌/◌, ◌%◌, ◌^◌, Bool, not, ◌&&◌, ◌||◌, eqb, if◌then◌else◌}
use Rattle.dshot_reply_spec.specs.Answer.{Answer, given, refused}
use Rattle.dshot_reply_spec.specs.Refusals.{zero_period}
use Rattle.dshot_reply_spec.specs.Nearest.{nearest}

-- the kinds of reading, by the words that the bench's line has for them, with the number read; `debug` has its channel first
pub data Reading : Type 0 where
  erpm : ℕ → Reading
  temp : ℕ → Reading
  volt : ℕ → Reading
  amp : ℕ → Reading
  debug : ℕ → ℕ → Reading
  state : ℕ → Reading
  edt : Reading

-- eRPM / 100 of a period in microseconds, halves up
unfoldable pub speed_of : ℕ → Answer Reading
speed_of period = if eqb period 0 then refused zero_period else given (erpm (nearest 600000 period))

-- a period is the lowest nine bits, shifted left by the top three; so it is a multiple of the step, which the top three give
abbrev pub period_of : ℕ → ℕ
period_of v = v % 512 * 2 ^ (v / 512)

abbrev pub step_of : ℕ → ℕ
step_of v = 2 ^ (v / 512)

-- 0xFFF is a stopped rotor
unfoldable pub speed_value : ℕ → Answer Reading
speed_value v = if eqb v 0xfff then given (erpm 0) else speed_of (period_of v)

-- a typed reading, by half its type nibble
unfoldable pub reading_of : ℕ → ℕ → Reading
reading_of half d =
    if eqb half 1 then temp d else
    if eqb half 2 then volt d else
    if eqb half 3 then amp d else
    if eqb half 7 then state d else
    debug (half - 3) d

-- with EDT off, 0xE00 acknowledges it, and every other value is a speed; with EDT on, those whose type nibble is odd or 0 are
unfoldable pub reply_of : ℕ → Bool → Answer Reading
reply_of value extended =
    let v = value % 4096 in
    if not extended && eqb v 0xe00 then given edt else
    if not extended || (eqb (v / 256 % 2) 1 || eqb (v / 256) 0) then speed_value v else
    given (reading_of (v / 512) (v % 256))
