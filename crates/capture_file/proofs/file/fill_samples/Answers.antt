-- `capture_file::file::fill_samples` fills the slots with the numbers that stand there.
-- Assumes nothing.
use mathlib.Core.Path.{sym, ap, ◌∙◌}
use native.Mathlib.Omega.{arith}
use Rattle.capture_file.specs.FileSteps.{number_answer}
use Rattle.capture_file.proofs.SampleLaws.{filling-more}
use Rattle.capture_file.proofs.file.fill_samples.Goals as goal

pub loop-slot-preserved : goal.loop-slot-preserved
loop-slot-preserved c =
    filling-more c.loop-slot.invariant _ (omega arith) (sym (ap number_answer c.unwrap-value.ensures) ∙ c.read_number.ensures)
