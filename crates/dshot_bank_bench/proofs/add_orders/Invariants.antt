-- `dshot_bank_bench::add_orders` meets its contract: what is left of the orders is added to the sum so far.
use Rattle.std.proofs.Common.{◌≡◌, ◌-◌}
use Rattle.dshot_bank_bench.specs.Cycles.{add_all, numbers_in}
use Rattle.dshot_bank_bench.proofs.add_orders.Given as goal

abbrev pub invariant-loop-i : goal.invariant-loop-i
invariant-loop-i l = add_all l.start (numbers_in l._i-end l.initial.codes) ≡ add_all l.sum (numbers_in (l._i-end - l._i) l.codes)
