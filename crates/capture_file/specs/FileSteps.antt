-- What the steps of reading and writing a capture file do. Only the contracts of private functions cite these; no public promise does.
-- Assumes nothing.
use Rattle.std.specs.Prelude.{ℕ, ◌+◌, List, ◌++◌, length, take, drop, Option, Some, None}
use Rattle.std.specs.Borrow.{Bor}
use Rattle.dshot_reply_spec.specs.Answer.{Answer, given, refused}
use Rattle.dshot_reply_spec.specs.Refusals.{not_acapture}
use Rattle.capture_file.specs.Groups.{Headed, headed}
use Rattle.capture_file.specs.File.{Head}
use Rattle.capture_file.specs.declared.file.Capture.{Capture}

-- a buffer in which a list replaces the elements from a place on
abbrev pub put : ℕ → List ℕ → List ℕ → List ℕ
put at xs out = take at out ++ xs ++ drop (at + length xs) out

-- a number that was read, with the bytes after it
abbrev pub number_answer : Option (ℕ × Bor (List ℕ)) → Answer Headed
number_answer (Some p) = given (headed p.0 p.1.now)
number_answer None = refused not_acapture

-- what was read before the samples, with the bytes after it
abbrev pub head_answer : Option (Capture × Bor (List ℕ)) → Answer Head
head_answer (Some p) = given (record { count = p.0.count; mask = p.0.mask; edt = p.0.extended_telemetry; rest = p.1.now })
head_answer None = refused not_acapture
