-- `capture_file::line::Line::push_text`: what is left of the text, written now, gives what the whole gave at first.
use mathlib.Core.Path.{◌≡◌}
use lib.ListN.{drop}
use Rattle.capture_file.specs.Steps.{written}
use Rattle.capture_file.proofs.line.Line.push_text.Given as goal

abbrev pub invariant-loop-byte : goal.invariant-loop-byte
invariant-loop-byte l = written l.self (drop l.byte-index l.text) ≡ written l.initial.self l.text
