-- `dshot_bank::send::first_refused` meets its contract.
-- Assumes nothing.
use Rattle.std.specs.Prelude.{None}
use Rattle.std.proofs.Common.{◌≡◌, ltb, not, length, refl, sym, ap, ◌∙◌, rules}
use Rattle.dshot_bank_spec.proofs.LaneLaws.{off}
use Rattle.dshot_bank_spec.specs.Lanes.{position}
use Rattle.dshot_bank.specs.States.{choice_of, motor_at}
use Rattle.dshot_bank.proofs.LaneTests.{placed, unplaced}
use Rattle.dshot_bank.proofs.send.first_refused.Goals as goal

pub returns-in_err-first_off : goal.returns-in_err-first_off
returns-in_err-first_off c =
    let taken = c.args.taken in
    let none : c.from_residual.result ≡ None = search rules in
    let long : length taken ≡ 4 = search rules in
    ap choice_of none ∙ off _ _ ((λ j. ltb (position not taken) (sym long j)) ∙ unplaced not taken c.in_err-first_off.ensures) refl

pub returns : goal.returns
returns c =
    let taken = c.args.taken in
    let p = placed not taken c.in_ok-first_off.field-0 c.in_ok-first_off.ensures in
    c.from_index.ensures ∙ ap motor_at p.0
