-- What each refusal of the code means in the numbers of documents 01 and 02.
-- Assumes nothing.
use Rattle.std.specs.Prelude.{ℕ, Result}
use Rattle.dshot_reply_spec.specs.Refusals.{zero_timer_clock, zero_bitrate, period_too_short, period_too_long, value_out_of_range, throttle_out_of_range, no_reply, overlong, invalid_symbol, wrong_checksum, zero_period, no_such_motor, wrong_length, wrong_duty, wrong_packet_checksum, period_out_of_range, not_acapture, faulted, motors_running, command_pending, telemetry_pending, replies_unsupported, broken_dump, not_declared_once, time_falls}
use Rattle.dshot_reply.specs.Answers.{status}
use Rattle.dshot_reply.specs.declared.refusals.Refusal.{Refusal}
use Rattle.dshot_reply.specs.declared.refusals.Refusal.TheVariants as Refusal·

-- the number of a refusal
abbrev pub refusal_number : Refusal → ℕ
refusal_number Refusal·.ZeroTimerClock = zero_timer_clock
refusal_number Refusal·.ZeroBitrate = zero_bitrate
refusal_number Refusal·.PeriodTooShort = period_too_short
refusal_number Refusal·.PeriodTooLong = period_too_long
refusal_number Refusal·.ValueOutOfRange = value_out_of_range
refusal_number Refusal·.ThrottleOutOfRange = throttle_out_of_range
refusal_number Refusal·.NoReply = no_reply
refusal_number Refusal·.Overlong = overlong
refusal_number Refusal·.InvalidSymbol = invalid_symbol
refusal_number Refusal·.WrongChecksum = wrong_checksum
refusal_number Refusal·.ZeroPeriod = zero_period
refusal_number Refusal·.NoSuchMotor = no_such_motor
refusal_number Refusal·.WrongLength = wrong_length
refusal_number Refusal·.WrongDuty = wrong_duty
refusal_number Refusal·.WrongPacketChecksum = wrong_packet_checksum
refusal_number Refusal·.PeriodOutOfRange = period_out_of_range
refusal_number Refusal·.NotACapture = not_acapture
refusal_number Refusal·.BankFaulted = faulted
refusal_number Refusal·.MotorsRunning = motors_running
refusal_number Refusal·.CommandPending = command_pending
refusal_number Refusal·.TelemetryPending = telemetry_pending
refusal_number Refusal·.RepliesUnsupported = replies_unsupported
refusal_number Refusal·.BrokenDump = broken_dump
refusal_number Refusal·.NotDeclaredOnce = not_declared_once
refusal_number Refusal·.TimeFalls = time_falls

-- the number that C gets: that of the refusal, or 0 if the call is done
abbrev pub status_number : Result Unit Refusal → ℕ
status_number = status refusal_number
