-- `bank_slots::steps::count_fault` meets its contract: the counts of a fault, each raised or not.
-- Assumes nothing.
use Rattle.std.proofs.Common.{true, false, sym, refl, ◌∙◌}
use borrow.Author.Tests.{eq-eqb, ne_eqb}
use Rattle.dshot_bank_spec.proofs.LaneLaws.{on, off}
use Rattle.bank_slots_spec.proofs.FaultMoves.{fault-counted}
use Rattle.bank_slots.proofs.steps.count_fault.Goals as goal
use Rattle.bank_slots.proofs.steps.count_fault.Goals.{then-state-eq0, else-state-eq0}

pub returns-then-spurious : goal.returns-then-spurious
returns-then-spurious c =
    let a = c.args in
    let xs = a.state.now in
    let spurious = on _ _ c.if-spurious.true c.bump-then-spurious.ensures in
    elim c.if-state-eq0.branch [
      | then-state-eq0 w ↦ fault-counted xs _ _ c.told-state true a.spurious (sym (eq-eqb _ 0 w.if-state-eq0.true)) (w.state-is ∙ w.bump.ensures) spurious
      | else-state-eq0 w ↦ fault-counted xs _ _ c.told-state false a.spurious (sym (ne_eqb _ 0 w.if-state-eq0.false)) w.state-is spurious
    ]

pub returns-else-spurious : goal.returns-else-spurious
returns-else-spurious c =
    let a = c.args in
    let xs = a.state.now in
    let spurious = off _ _ c.if-spurious.false refl in
    elim c.if-state-eq0.branch [
      | then-state-eq0 w ↦ fault-counted xs _ _ c.told-state true a.spurious (sym (eq-eqb _ 0 w.if-state-eq0.true)) (w.state-is ∙ w.bump.ensures) spurious
      | else-state-eq0 w ↦ fault-counted xs _ _ c.told-state false a.spurious (sym (ne_eqb _ 0 w.if-state-eq0.false)) w.state-is spurious
    ]
