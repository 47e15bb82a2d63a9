-- `next` of `dshot_bank::orders::Orders` meets its contract.
-- Assumes nothing.
use Rattle.std.proofs.Common.{sym, refl, ◌∙◌, arith}
use Rattle.dshot_bank.proofs.LoopLaws.{passed, taken, zeros, nothing}
use Rattle.dshot_bank.proofs.orders.OrdersIterator.next.Goals as goal
use Rattle.dshot_bank.proofs.orders.OrdersIterator.next.Goals.{then-loop-self-test+else-self-gt0, else-loop-self-test}

pub loop-self-init : goal.loop-self-init
loop-self-init c = record { first = refl; rest = refl; count = omega arith }

pub loop-self-preserved : goal.loop-self-preserved
loop-self-preserved c =
    let s = c.loop-self.self in
    let h = c.loop-self.invariant in
    let p = passed s.count s.codes c.loop-self-test.true (sym c.of.ensures ∙ c.in_default.is) in
    record { first = p.0 ∙ h.first; rest = p.1 ∙ h.rest; count = omega arith }

pub returns-in-loop-self-clause-steps : goal.returns-in-loop-self-clause-steps
returns-in-loop-self-clause-steps c =
    let s = c.loop-self.self in
    let h = c.loop-self.invariant in
    let t = taken s.count s.codes c.loop-self-test.true c.in-Some.kind (sym c.of.ensures ∙ c.in-Some.is) in
    (t.0 ∙ h.first, t.1 ∙ h.rest)

pub returns-in-loop-self-clause-goes : goal.returns-in-loop-self-clause-goes
returns-in-loop-self-clause-goes c = record { on = λ f. (tt, tt, omega arith); keeps = tt; rests = λ f. tt }

pub returns-clause-steps : goal.returns-clause-steps
returns-clause-steps c =
    let s = c.loop-self.self in
    let h = c.loop-self.invariant in
    elim c.loop-self-test.branch [
      | then-loop-self-test+else-self-gt0 w ↦ let z = zeros s.count s.codes w.if-self-gt0.false in (z.0 ∙ h.first, z.1 ∙ h.rest)
      | else-loop-self-test w ↦ let z = nothing s.count s.codes w.loop-self-test.false in (z.0 ∙ h.first, z.1 ∙ h.rest)
    ]
