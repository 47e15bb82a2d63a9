-- `dshot_bank_bench::Run::interrupts` meets its contract: before each turn of the loop the run is after the interrupts so far.
use Rattle.std.proofs.Common.{◌≡◌}
use Rattle.dshot_bank_spec.specs.State.{Buffers}
use Rattle.dshot_bank_bench.specs.Cycles.{interrupts}
use Rattle.dshot_bank_bench.specs.Runs.{run_of}
use Rattle.dshot_bank_bench.proofs.Run.interrupts.Given as goal

abbrev pub invariant-loop-i : goal.invariant-loop-i
invariant-loop-i l = (b : Buffers) → run_of l.run b ≡ interrupts l.i (run_of l.initial.run b)
