-- `capture_file::line::Line::push_hexadecimal`: the measure is the count of the digits.
use Rattle.capture_file.proofs.line.Line.+push_hexadecimal.Given as goal

abbrev pub decreases-push_hexadecimal : goal.decreases-push_hexadecimal
decreases-push_hexadecimal l = l.digits
