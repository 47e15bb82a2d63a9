-- What the code's answers mean in the terms of the definitions. Each case of an enum is document 01's number, or says that the call was done.
-- Assumes nothing.
use Rattle.std.specs.Prelude.{ℕ, List, map, Result, Ok, Err}
use Rattle.std.specs.Prelude as Std
use Rattle.dshot_reply_spec.specs.Answer as Reply
use Rattle.dshot_reply_spec.specs.Value.{Reading}
use Rattle.dshot_reply_spec.specs.Refusals.{throttle_out_of_range, no_such_motor, faulted, motors_running, command_pending, telemetry_pending, replies_unsupported}
use Rattle.dshot_reply.specs.declared.DshotReply.{DshotReply}
use Rattle.dshot_reply.specs.declared.DshotReplyError.{DshotReplyError}
use Rattle.dshot_reply.specs.Answers.{reply_answer}
use Rattle.dshot_bank_spec.specs.Calls as Spec
use Rattle.dshot_bank_spec.specs.Calls.{Answer, done, refused, replied}
use Rattle.dshot_bank.specs.declared.commands.DshotInitError.{DshotInitError}
use Rattle.dshot_bank.specs.declared.commands.DshotInitError.TheVariants.{RepliesUnsupported}
use Rattle.dshot_bank.specs.declared.commands.DshotCommandError.{DshotCommandError}
use Rattle.dshot_bank.specs.declared.commands.DshotCommandError.TheVariants as DshotCommandError·
use Rattle.dshot_bank.specs.declared.commands.DshotSpecialCommandError.{DshotSpecialCommandError}
use Rattle.dshot_bank.specs.declared.commands.DshotSpecialCommandError.TheVariants as DshotSpecialCommandError·
use Rattle.dshot_bank.specs.declared.commands.DshotTelemetryRequestError.{DshotTelemetryRequestError}
use Rattle.dshot_bank.specs.declared.commands.DshotTelemetryRequestError.TheVariants as DshotTelemetryRequestError·
use Rattle.dshot_bank.specs.declared.replies.DshotReplyStats.{DshotReplyStats}
use Rattle.dshot_bank.specs.States.{option_of}

-- ---- commands

-- what a command answers, by the number of its error
abbrev pub done_answer : {E : Type 0} → (E → ℕ) → Result Unit E → Answer
done_answer number (Ok unit) = done
done_answer number (Err error) = refused (number error)

abbrev pub init_error_number : DshotInitError → ℕ
init_error_number RepliesUnsupported = replies_unsupported

abbrev pub enabled_answer : Result Unit DshotInitError → Answer
enabled_answer = done_answer init_error_number

abbrev pub command_error_number : DshotCommandError → ℕ
command_error_number DshotCommandError·.ThrottleOutOfRange = throttle_out_of_range
command_error_number DshotCommandError·.Faulted = faulted

abbrev pub throttled_answer : Result Unit DshotCommandError → Answer
throttled_answer = done_answer command_error_number

abbrev pub special_error_number : DshotSpecialCommandError → ℕ
special_error_number DshotSpecialCommandError·.NoSuchMotor = no_such_motor
special_error_number DshotSpecialCommandError·.Faulted = faulted
special_error_number DshotSpecialCommandError·.MotorsRunning = motors_running
special_error_number DshotSpecialCommandError·.CommandPending = command_pending

abbrev pub special_answer : Result Unit DshotSpecialCommandError → Answer
special_answer = done_answer special_error_number

abbrev pub request_error_number : DshotTelemetryRequestError → ℕ
request_error_number DshotTelemetryRequestError·.NoSuchMotor = no_such_motor
request_error_number DshotTelemetryRequestError·.Busy = telemetry_pending
request_error_number DshotTelemetryRequestError·.Faulted = faulted

abbrev pub requested_answer : Result Unit DshotTelemetryRequestError → Answer
requested_answer = done_answer request_error_number

-- ---- replies

-- each lane's reply as it is handed out
abbrev pub answers_of : List (Result DshotReply DshotReplyError) → List (Reply.Answer Reading)
answers_of l = map reply_answer l

-- the Rust's `Option<DshotReplies>`
abbrev pub taken_answer : Std.Option (List (Result DshotReply DshotReplyError)) → Answer
taken_answer r = replied (option_of answers_of r)

abbrev pub reply_stats_of : DshotReplyStats → Spec.ReplyStats
reply_stats_of s = record { valid = s.valid; invalid = s.invalid; consecutive_invalid = s.consecutive_invalid }
