-- `dshot_reply::read_runs` meets its contract: what is left to read is assembled after what has been read, and each run adds a bit or more.
use mathlib.Core.Path.{◌≡◌}
use Prim.Native.Nat.{◌-◌, ◌^◌, ◌≤◌, ◌<◌}
use lib.ListN.{length}
use Rattle.dshot_reply_spec.specs.Runs.{assemble, levels, runs_of}
use Rattle.dshot_reply.proofs.RunLaws.{rest}
use Rattle.dshot_reply.proofs.read_runs.Given as goal

abbrev pub invariant-loop-length : goal.invariant-loop-length
invariant-loop-length l =
    (length l.left ≤ 69)
    × (l.bits ≤ 21)
    × (l.transitions < 2 ^ l.bits)
    × (assemble (runs_of 3 (levels l.pin_mask l.samples)) ≡ rest 3 l.pin_mask l.left l.level l.bits l.transitions)

abbrev pub decreases-loop-length : goal.decreases-loop-length
decreases-loop-length l = 21 - l.bits
