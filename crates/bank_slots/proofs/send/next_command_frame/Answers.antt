-- `bank_slots::send::next_command_frame` meets its contract: the next command: a run that is cancelled, no run, a run that is spent, or a step of it.
-- Assumes nothing.
use Rattle.std.proofs.Common.{◌≡◌, ℕ, ap, ◌∙◌, rules}
use mathlib.Core.Option.{Option, some, none}
use Rattle.dshot_spec.specs.Command.{next_value}
use Rattle.dshot.specs.Answers.{command_of, next_of}
use Rattle.dshot_bank_spec.specs.Commands.{MotorCommand}
use Rattle.dshot_bank.specs.States.{motor_of}
use Rattle.dshot_bank.specs.Sends.{motor_command_of}
use Rattle.bank_slots_spec.specs.Memory.{at}
use Rattle.bank_slots_spec.specs.Places.{RUN}
use Rattle.bank_slots_spec.specs.Load.{choice}
use Rattle.bank_slots_spec.proofs.SendMoves.{frame-cancelled, frame-none, frame-stepped, run-next}
use Rattle.bank_slots.proofs.Motors.{chosen, unchosen}
use Rattle.bank_slots.proofs.Any.{values-above}
use Rattle.bank_slots.proofs.send.next_command_frame.Goals as goal

pub returns-then-any_above : goal.returns-then-any_above
returns-then-any_above c =
    let xs = c.args.state.now in
    let n = c.told-state in
    let all = frame-cancelled xs n c.any_above.result (values-above xs n c.values_at.ensures c.any_above.ensures) c.if-any_above.true c.clear_run.ensures in
    record { result_value = all.0; moves = all.1 }

pub returns-in_err-motor : goal.returns-in_err-motor
returns-in_err-motor c =
    let xs = c.args.state.now in
    let n = c.told-state in
    let z : none ≡ choice (at xs RUN) = search rules in
    let all = frame-none xs n c.any_above.result (values-above xs n c.values_at.ensures c.any_above.ensures) c.if-any_above.false (unchosen z) in
    let r : motor_command_of c.from_residual.result ≡ none = search rules in
    record { result_value = r ∙ all.0; moves = all.1 }

pub returns-in_default : goal.returns-in_default
returns-in_default c =
    let xs = c.args.state.now in
    let n = c.next_value in
    let z : some (motor_of c.in_ok-motor.motor) ≡ choice (at xs RUN) = search rules in
    let s = run-next xs (chosen z).0 (next_of n.result n.new.self) (n.ensures ∙ ap (next_value 10) c.run_at-run.ensures) (ap command_of c.in_default.is) c.clear_run-in_default.ensures in
    let all = frame-stepped xs c.told-state c.any_above.result (values-above xs c.told-state c.values_at.ensures c.any_above.ensures) c.if-any_above.false s.0 s.1 in
    record { result_value = all.0; moves = all.1 }

pub returns : goal.returns
returns c =
    let xs = c.args.state.now in
    let n = c.next_value in
    let z : some (motor_of c.in_ok-motor.motor) ≡ choice (at xs RUN) = search rules in
    let f = (chosen z).1 in
    let s = run-next xs (chosen z).0 (next_of n.result n.new.self) (n.ensures ∙ ap (next_value 10) c.run_at-run.ensures) (ap command_of c.in-Some.is) (rw f at c.put_run.ensures) in
    let command = ap {B = Option MotorCommand} (λ (m : ℕ). some (record { motor = m; command = c.in-Some.command })) f in
    let all = frame-stepped xs c.told-state c.any_above.result (values-above xs c.told-state c.values_at.ensures c.any_above.ensures) c.if-any_above.false (command ∙ s.0) s.1 in
    record { result_value = all.0; moves = all.1 }
