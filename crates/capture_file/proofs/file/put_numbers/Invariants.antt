-- `capture_file::file::put_numbers`: with the groups of the numbers that are left, the bytes are what they are to be.
use Prim.Native.Nat.{◌+◌}
use lib.ListN.{length}
use Rattle.capture_file.specs.File.{all_groups}
use Rattle.capture_file.specs.FileSteps.{put}
use Rattle.capture_file.proofs.WriteLaws.{Ahead}
use Rattle.capture_file.proofs.file.put_numbers.Given as goal

abbrev pub invariant-loop-number : goal.invariant-loop-number
invariant-loop-number l =
    Ahead (put l.from (all_groups l.numbers) l.initial.file) (l.from + length (all_groups l.numbers)) l.file l.at l.numbers l.number-index
