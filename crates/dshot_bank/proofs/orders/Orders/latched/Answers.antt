-- `dshot_bank::orders::Orders::latched` meets its contract: outputs low, then every stream paused, behind the others.
-- Assumes nothing.
use Rattle.std.proofs.Common.{◌+◌, refl, ◌∙◌}
use Rattle.dshot_spec.specs.Tabulate.{tabulate}
use Rattle.dshot_bank_spec.specs.Order.{latch_orders}
use Rattle.dshot_bank.proofs.OrderLaws.{held_append}
use Rattle.dshot_bank.proofs.orders.Orders.latched.Goals as goal

pub returns : goal.returns
unfolding tabulate
returns c = λ l e.
    let o = c.args.self in
    (λ j. record { count = o.count + 5; codes = o.codes + c.latched_above.ensures.0 j }) ∙ held_append l (latch_orders 4) o.count e refl
