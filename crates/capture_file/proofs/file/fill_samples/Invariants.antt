-- `capture_file::file::fill_samples`: the bytes are the numbers in the slots so far, and then those that the bytes that are left are.
use Rattle.capture_file.proofs.SampleLaws.{Filling}
use Rattle.capture_file.proofs.file.fill_samples.Given as goal

abbrev pub invariant-loop-slot : goal.invariant-loop-slot
invariant-loop-slot l = Filling l.bytes l.slot-items l.slot-index l.rest
