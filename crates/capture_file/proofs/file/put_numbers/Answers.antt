-- `capture_file::file::put_numbers` puts the groups of all numbers over the bytes from a place on.
-- Assumes nothing.
use Rattle.capture_file.proofs.WriteLaws.{ahead_more}
use Rattle.capture_file.proofs.file.put_numbers.Goals as goal

pub loop-number-preserved : goal.loop-number-preserved
loop-number-preserved c =
    let put = c.put_number-at in
    ahead_more c.loop-number.invariant c.loop-number-test.true put.ensures.value put.ensures.file_after put.auto.file
