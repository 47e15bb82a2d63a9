-- `capture_file::file::are_samples`: the answer is whether the bytes that are left are the numbers that are left.
use mathlib.Core.Path.{◌≡◌}
use Prim.Native.Nat.{◌-◌}
use Rattle.capture_file.specs.Groups.{read_all}
use Rattle.dshot_reply_spec.specs.Answer.{is_given}
use Rattle.capture_file.proofs.file.are_samples.Given as goal

abbrev pub invariant-loop : goal.invariant-loop
invariant-loop l = is_given (read_all l.count l.bytes) ≡ is_given (read_all (l.count - l.counter) l.rest)
