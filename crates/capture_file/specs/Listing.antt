-- The line that the bench prints for a capture file (document 01, "The bench's line"): from the file's bytes to the line's bytes.
-- Assumes nothing.
use Rattle.std.specs.Prelude.{ℕ, List}
use Rattle.dshot_reply_spec.specs.Answer.{Answer, and_then}
use Rattle.capture_file.specs.File.{Capture, read_file}
use Rattle.capture_file.specs.Line.{Listed, listed_of, line_of}

-- what the line says of a capture
unfoldable pub listed_capture : Capture → Answer Listed
listed_capture c = listed_of c.samples c.mask c.edt

-- If a file holds no capture, it is refused before anything is read as a reply.
unfoldable pub file_line : List ℕ → List ℕ
file_line bytes = line_of (and_then (read_file bytes) listed_capture)
