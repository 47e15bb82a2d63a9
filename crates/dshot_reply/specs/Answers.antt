-- What each case of the code's enums means in document 01's numbers and values.
-- Assumes nothing.
use Rattle.std.specs.Prelude.{ℕ, Result, Ok, Err}
use Rattle.dshot_reply_spec.specs.Answer.{Answer, given, refused}
use Rattle.dshot_reply_spec.specs.Refusals.{no_reply, overlong, invalid_symbol, wrong_checksum, zero_period, no_mask, wrong_length, period_out_of_range}
use Rattle.dshot_reply_spec.specs.Value.{Reading, erpm, temp, volt, amp, debug, state, edt}
use Rattle.dshot_reply_spec.specs.ValuePeriod as Told
use Rattle.dshot_reply.specs.declared.DshotReplyError.{DshotReplyError}
use Rattle.dshot_reply.specs.declared.DshotReplyError.TheVariants.{NoReply, Overlong, InvalidSymbol, Checksum, ZeroPeriod}
use Rattle.dshot_reply.specs.declared.DshotReply.{DshotReply}
use Rattle.dshot_reply.specs.declared.DshotReply.TheVariants.{Erpm, Temperature, Voltage, Current, Debug, StateEvent, ExtendedTelemetryEnabled}
use Rattle.dshot_reply.specs.declared.period.ValuePeriod.{ValuePeriod}
use Rattle.dshot_reply.specs.declared.simulate.SimulateError.{SimulateError}
use Rattle.dshot_reply.specs.declared.simulate.SimulateError.TheVariants.{PeriodOutOfRange, NoMask, WrongLength}

-- what a `Result` answers, by the meaning of its value and the number of its error
abbrev pub answer : {T E A : Type 0} → (T → A) → (E → ℕ) → Result T E → Answer A
answer meaning number (Ok value) = given (meaning value)
answer meaning number (Err error) = refused (number error)

-- the number of its error, or 0 if the call is done
abbrev pub status : {E : Type 0} → (E → ℕ) → Result Unit E → ℕ
status number (Ok done) = 0
status number (Err error) = number error

-- the number of each refusal
abbrev pub error_number : DshotReplyError → ℕ
error_number NoReply = no_reply
error_number Overlong = overlong
error_number InvalidSymbol = invalid_symbol
error_number Checksum = wrong_checksum
error_number ZeroPeriod = zero_period

-- the transition bits of a capture, and the value of transition bits
abbrev pub number_answer : Result ℕ DshotReplyError → Answer ℕ
number_answer = answer (λ n. n) error_number

-- the kind and the number of each reply
abbrev pub reading : DshotReply → Reading
reading (Erpm n) = erpm n
reading (Temperature n) = temp n
reading (Voltage n) = volt n
reading (Current n) = amp n
reading (Debug channel n) = debug channel n
reading (StateEvent n) = state n
reading ExtendedTelemetryEnabled = edt

-- the reading of a value or a capture
abbrev pub reply_answer : Result DshotReply DshotReplyError → Answer Reading
reply_answer = answer reading error_number

-- the period of a value
abbrev pub period_told : ValuePeriod → Told.Period
period_told p = record { microseconds = p.period_us; step = p.step_us }

abbrev pub value_period_answer : Result ValuePeriod DshotReplyError → Answer Told.Period
value_period_answer = answer period_told error_number

-- ---- the simulated ESC

abbrev pub simulate_error_number : SimulateError → ℕ
simulate_error_number PeriodOutOfRange = period_out_of_range
simulate_error_number NoMask = no_mask
simulate_error_number WrongLength = wrong_length

-- the value of a period
abbrev pub period_answer : Result ℕ SimulateError → Answer ℕ
period_answer = answer (λ n. n) simulate_error_number

-- the number of a refusal; 0 if the capture was written
abbrev pub simulated_number : Result Unit SimulateError → ℕ
simulated_number = status simulate_error_number
