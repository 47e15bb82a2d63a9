-- `case_text::numbers::read_number` meets its contract: the loop ends at the end of the line, or at a byte that is no digit.
-- Assumes nothing.
use Rattle.std.proofs.Common.{◌≡◌, drop, sym, ◌∙◌, arith}
use Rattle.case_text.specs.Numbers.{digits, ended}
use Rattle.case_text.proofs.NumberLaws.{read_digits, ended-is, read-end, read-stop}
use Rattle.case_text.proofs.numbers.read_number.Goals as goal
use Rattle.case_text.proofs.numbers.read_number.Goals.{else-loop-byte-test, then-loop-byte-test+in_default}

pub returns : goal.returns
returns c =
    let l = c.loop-byte in
    let bs = c.rest-byte-items.result.now in
    let read : read_digits (digits (drop l.byte-index bs)) c.args.from l.value l.end ≡ ended l.value c.args.from l.end = elim c.loop-byte-test.branch [
      | else-loop-byte-test w ↦ read-end bs l.byte-index c.args.from l.value l.end (omega arith) l.invariant.fits
      | then-loop-byte-test+in_default w ↦ read-stop bs l.byte-index c.args.from l.value l.end (omega arith) (sym w.digit.ensures ∙ w.in_default.is) l.invariant.fits
    ] in
    c.then_some.ensures ∙ ended-is l.value c.args.from l.end ∙ sym (l.invariant.read ∙ read)
