-- `dshot_bank_bench::counts_of` meets its contract: each call of the closure gives the count of its place.
-- Assumes nothing.
use Rattle.std.proofs.Common.{rules}
use Rattle.std.proofs.lemmas.List.FromFn.{fill_by_all}
use Rattle.dshot_spec.specs.Tabulate.{tabulate}
use Rattle.dshot_bank.specs.States.{bank_of}
use Rattle.dshot_bank_bench.specs.Cycles.{count_at}
use Rattle.dshot_bank_bench.proofs.counts_of.Goals as goal

pub returns : goal.returns
unfolding tabulate
returns c =
    let run = c.args.run in
    fill_by_all (count_at (bank_of run.bank) run.sum) c.from_fn.result 24 0 c.from_fn.ensures.items.long
    (λ i h. let called = c.from_fn.ensures.items.at i 0 h in search rules)
