-- `bank_slots::send::first_refused` meets its contract: the place of the first lane, as a motor.
-- Assumes nothing.
use Rattle.std.specs.Prelude.{None}
use Rattle.std.proofs.Common.{◌≡◌, not, refl, ap, ◌∙◌, arith, rules}
use Rattle.dshot_bank_spec.proofs.LaneLaws.{off}
use Rattle.dshot_bank.specs.States.{choice_of, motor_at}
use Rattle.dshot_bank.proofs.LaneTests.{placed, unplaced}
use Rattle.bank_slots_spec.specs.Arguments.{taken}
use Rattle.bank_slots.proofs.Lanes.{first_refused_is}
use Rattle.bank_slots.proofs.send.first_refused.Goals as goal

pub returns-in_err-first_off : goal.returns-in_err-first_off
returns-in_err-first_off c =
    let xs = c.args.lanes.now in
    let none : c.from_residual.result ≡ None = search rules in
    ap choice_of none ∙ off _ _ (unplaced not (taken xs) (c.in_err-first_off.ensures ∙ first_refused_is xs (omega (arith, c.told-lanes)))) refl

pub returns : goal.returns
returns c =
    let xs = c.args.lanes.now in
    let p = placed not (taken xs) c.in_ok-first_off.field-0 (c.in_ok-first_off.ensures ∙ first_refused_is xs (omega (arith, c.told-lanes))) in
    c.from_index.ensures ∙ ap motor_at p.0
