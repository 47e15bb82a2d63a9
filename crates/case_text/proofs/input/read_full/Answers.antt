-- `case_text::input::read_full` meets its contract: what a turn reads stands behind what is there.
-- Assumes nothing.
use Rattle.std.proofs.Common.{rules}
use Rattle.capture_file.proofs.InputLaws.{more-read}
use Rattle.case_text.proofs.input.read_full.Goals as goal

pub loop-done-preserved : goal.loop-done-preserved
loop-done-preserved g c = (
  search rules,
  search rules,
  more-read _ _ _ c.loop-done.done c.in_ok-more.more c.loop-done.buffer c.read.new.buf c.loop-done.invariant.1 c.in_ok-more.ensures.bound.0
      c.loop-done.invariant.2 c.in_ok-more.ensures.bytes.0,
)
