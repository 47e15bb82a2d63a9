-- What the steps of listing a capture do. Only the contracts of private functions cite these; no public promise does.
-- Assumes nothing.
use Rattle.std.specs.Prelude.{ℕ, ◌+◌, List, [], ◌∷◌, ltb, set, if◌then◌else◌, Result}
use Rattle.dshot_reply.specs.Answers.{answer, error_number, reading}
use Rattle.dshot_reply.specs.declared.DshotReplyError.{DshotReplyError}
use Rattle.dshot_reply_spec.specs.Answer.{Answer}
use Rattle.capture_file.specs.Line as Told
use Rattle.capture_file.specs.declared.line.Listed.{Listed}
use Rattle.capture_file.specs.declared.line.Line.{Line}

-- a line with one more byte at its end; a full line stays as it is
unfoldable pub pushed : Line → ℕ → Line
pushed line b = if ltb line.length 32 then record { bytes = set line.bytes line.length b; length = line.length + 1 } else line

-- a line with some more bytes, one after the other
abbrev pub written : Line → List ℕ → Line
written line [] = line
written line (b ∷ bs) = written (pushed line b) bs

-- what was read of a capture
abbrev pub listed_so : Listed → Told.Listed
listed_so l = record { word = l.word; value = l.value; reading = reading l.reply }

abbrev pub listed_answer : Result Listed DshotReplyError → Answer Told.Listed
listed_answer = answer listed_so error_number
