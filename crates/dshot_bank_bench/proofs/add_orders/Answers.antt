-- `dshot_bank_bench::add_orders` meets its contract.
-- Assumes nothing.
use Rattle.std.proofs.Common.{◌≡◌, ℕ, suc, ◌+◌, ◌-◌, sym, ap, ◌∙◌, arith}
use Rattle.dshot_bank_bench.specs.Cycles.{add_all, numbers_in}
use Rattle.dshot_bank_bench.proofs.add_orders.Goals as goal

pub loop-i-init : goal.loop-i-init
loop-i-init c =
    let a = c.args in
    let all : a.orders.count ≡ a.orders.count - 0 = omega arith in
    ap (λ (n : ℕ). add_all a.start (numbers_in n a.orders.codes)) all

pub loop-i-preserved : goal.loop-i-preserved
loop-i-preserved c =
    let l = c.loop-i in
    let n = c.args.orders.count in
    let left : n - l._i ≡ suc (n - (l._i + 1)) = omega arith in
    l.invariant ∙ ap (λ (k : ℕ). add_all l.sum (numbers_in k l.codes)) left

pub returns : goal.returns
returns c =
    let l = c.loop-i in
    let n = c.args.orders.count in
    let none : n - l._i ≡ 0 = omega arith in
    sym (l.invariant ∙ ap (λ (k : ℕ). add_all l.sum (numbers_in k l.codes)) none)
