-- `capture_file::line::Line::push_decimal`: the measure is the number.
use Rattle.capture_file.proofs.line.Line.+push_decimal.Given as goal

abbrev pub decreases-push_decimal : goal.decreases-push_decimal
decreases-push_decimal l = l.number
