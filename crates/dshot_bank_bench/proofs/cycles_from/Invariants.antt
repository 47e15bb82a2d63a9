-- `dshot_bank_bench::cycles_from` meets its contract: before each turn of the loop the run is after the cycles so far.
use Rattle.std.proofs.Common.{◌≡◌}
use Rattle.dshot_bank_bench.specs.Cycles.{Run, cycles}
use Rattle.dshot_bank_bench.specs.Runs.{run_of}
use Rattle.dshot_bank_bench.proofs.cycles_from.Given as goal

abbrev pub invariant-loop-n : goal.invariant-loop-n
invariant-loop-n l =
    ◌≡◌ {A = Run} (run_of l.run (record { first = l.first; second = l.second }))
    (cycles l.setup.present l.setup.mask l.setup.interrupts l.throttles l.captures (run_of l.initial.run (record { first = l.initial.first; second = l.initial.second })) l.n)
