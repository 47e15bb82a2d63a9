-- `bank_slots::commands::command_special` meets its contract: a run queued: each refusal in its turn, or put.
-- Assumes nothing.
use Rattle.std.proofs.Common.{◌≡◌, ap, rules}
use Rattle.dshot_spec.specs.Command.{CommandRun}
use Rattle.bank_slots_spec.specs.Load.{load}
use Rattle.bank_slots_spec.specs.Moves.{on_core}
use Rattle.bank_slots_spec.specs.Parts.{queued}
use Rattle.bank_slots_spec.proofs.MoveLaws.{moves-as}
use Rattle.bank_slots_spec.proofs.CalledLaws.{with-answer}
use Rattle.bank_slots_spec.proofs.CommandCalls.{special-missing, special-faulted, special-running, special-pending, special-queued}
use mathlib.Core.Option.{some, none}
use Rattle.dshot_reply.specs.Refusals.{status_number}
use Rattle.dshot_bank.specs.States.{motor_of, motor_at}
use Rattle.bank_slots.proofs.Motors.{motor_small, found, missing}
use Rattle.bank_slots.proofs.commands.command_special.Goals as goal

pub returns-in_err-motor : goal.returns-in_err-motor
returns-in_err-motor c =
    let a = c.args in
    let e : c.in_ok-state.state.now ≡ a.bank.now = search rules in
    let m : none ≡ motor_at a.motor = search rules in
    let r : status_number c.from_residual-in_err-motor.result ≡ 12 = search rules in
    let all = with-answer (λ b. special-missing a.bank.now b (search rules) a.motor a.sequence.now (search rules) (missing m)) in
    rw (e, r) (record { value = all.0; called = all.1 })

pub returns-then-flag : goal.returns-then-flag
returns-then-flag c =
    let a = c.args in
    let e : c.in_ok-state.state.now ≡ a.bank.now = search rules in
    let m : some (motor_of c.in_ok-motor.motor) ≡ motor_at a.motor = search rules in
    let f : motor_of c.in_ok-motor.motor ≡ a.motor = found m in
    let small = rw f at (motor_small c.in_ok-motor.motor) in
    let all = with-answer (λ b. special-faulted a.bank.now b (search rules) a.motor a.sequence.now (search rules) small (search rules)) in
    rw e (record { value = all.0; called = all.1 })

pub returns-then-is_running : goal.returns-then-is_running
returns-then-is_running c =
    let a = c.args in
    let e : c.in_ok-state.state.now ≡ a.bank.now = search rules in
    let m : some (motor_of c.in_ok-motor.motor) ≡ motor_at a.motor = search rules in
    let f : motor_of c.in_ok-motor.motor ≡ a.motor = found m in
    let small = rw f at (motor_small c.in_ok-motor.motor) in
    let all = with-answer (λ b. special-running a.bank.now b (search rules) a.motor a.sequence.now (search rules) small (search rules) (search rules)) in
    rw e (record { value = all.0; called = all.1 })

pub returns-then-state-ne0 : goal.returns-then-state-ne0
returns-then-state-ne0 c =
    let a = c.args in
    let e : c.in_ok-state.state.now ≡ a.bank.now = search rules in
    let m : some (motor_of c.in_ok-motor.motor) ≡ motor_at a.motor = search rules in
    let f : motor_of c.in_ok-motor.motor ≡ a.motor = found m in
    let small = rw f at (motor_small c.in_ok-motor.motor) in
    let all = with-answer (λ b. special-pending a.bank.now b (search rules) a.motor a.sequence.now (search rules) small (search rules) (search rules) (search rules)) in
    rw e (record { value = all.0; called = all.1 })

pub returns : goal.returns
returns c =
    let a = c.args in
    let e : c.in_ok-state.state.now ≡ a.bank.now = search rules in
    let s : c.in_ok-sequence.sequence.now ≡ a.sequence.now = search rules in
    let m : some (motor_of c.in_ok-motor.motor) ≡ motor_at a.motor = search rules in
    let f : motor_of c.in_ok-motor.motor ≡ a.motor = found m in
    let small = rw f at (motor_small c.in_ok-motor.motor) in
    let all = with-answer (λ b. special-queued a.bank.now b (search rules) a.motor a.sequence.now (search rules) small (search rules) (search rules) (search rules)
    (moves-as (rw (e, f) at c.put_run.ensures) (ap (λ (run : CommandRun). on_core (queued a.motor run) (load a.bank.now)) (rw s at c.run_from.ensures)))) in
    record { value = all.0; called = all.1 }
