-- `next` of `dshot_bank::orders::Orders` meets its contract: before each turn the first order and the rest are still those of all.
use Rattle.std.proofs.Common.{◌≡◌, ◌≤◌}
use Rattle.dshot_bank.specs.Orders.{first_order, rest_orders}
use Rattle.dshot_bank.proofs.orders.OrdersIterator.next.Given as goal

abbrev pub invariant-loop-self : goal.invariant-loop-self
invariant-loop-self l = record {
  first : first_order l.self ≡ first_order l.initial.self;
  rest : rest_orders l.self ≡ rest_orders l.initial.self;
  count : l.self.count ≤ l.initial.self.count;
}

abbrev pub decreases-loop-self : goal.decreases-loop-self
decreases-loop-self l = l.self.count
