-- What each case of the code's types for capture files means in document 01's numbers and values.
-- Assumes nothing.
use Rattle.std.specs.Prelude.{ℕ, Result}
use Rattle.dshot_reply.specs.Answers.{answer}
use Rattle.dshot_reply_spec.specs.Answer.{Answer}
use Rattle.dshot_reply_spec.specs.Refusals.{not_acapture, wrong_length}
use Rattle.capture_file.specs.File.{Told}
use Rattle.capture_file.specs.declared.file.Capture.{Capture}
use Rattle.capture_file.specs.declared.file.CaptureError.{CaptureError}
use Rattle.capture_file.specs.declared.file.CaptureError.TheVariants.{NotACapture, WrongLength}

-- the number of each refusal
abbrev pub capture_error_number : CaptureError → ℕ
capture_error_number NotACapture = not_acapture
capture_error_number WrongLength = wrong_length

-- what a file holds besides its samples
abbrev pub capture_told : Capture → Told
capture_told c = record { count = c.count; mask = c.mask; edt = c.extended_telemetry }

-- what the reader answers for a capture
abbrev pub read_answer : Result Capture CaptureError → Answer Told
read_answer = answer capture_told capture_error_number

-- the length of the file that was written, or the refusal
abbrev pub written_answer : Result ℕ CaptureError → Answer ℕ
written_answer = answer (λ n. n) capture_error_number
