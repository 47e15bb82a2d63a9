-- `bank_slots::commands::request_telemetry` meets its contract: a request: each refusal in its turn, or its slot written.
-- Assumes nothing.
use Rattle.std.proofs.Common.{◌≡◌, rules}
use Rattle.bank_slots_spec.proofs.CalledLaws.{with-answer}
use Rattle.bank_slots_spec.proofs.CommandCalls.{request-missing, request-faulted, request-pending, request-taken}
use mathlib.Core.Option.{some, none}
use Rattle.dshot_reply.specs.Refusals.{status_number}
use Rattle.dshot_bank.specs.States.{motor_of, motor_at}
use Rattle.bank_slots.proofs.Motors.{motor_small, found, missing}
use Rattle.bank_slots.proofs.Tags.{motor_tag}
use Rattle.bank_slots.proofs.commands.request_telemetry.Goals as goal

pub returns-in_err-motor : goal.returns-in_err-motor
returns-in_err-motor c =
    let a = c.args in
    let e : c.in_ok-state.state.now ≡ a.bank.now = search rules in
    let m : none ≡ motor_at a.motor = search rules in
    let r : status_number c.from_residual-in_err-motor.result ≡ 12 = search rules in
    let all = with-answer (λ b. request-missing a.bank.now b (search rules) a.motor (missing m)) in
    rw (e, r) (record { value = all.0; called = all.1 })

pub returns-then-state-ne0 : goal.returns-then-state-ne0
returns-then-state-ne0 c =
    let a = c.args in
    let e : c.in_ok-state.state.now ≡ a.bank.now = search rules in
    let m : some (motor_of c.in_ok-motor.motor) ≡ motor_at a.motor = search rules in
    let f : motor_of c.in_ok-motor.motor ≡ a.motor = found m in
    let small = rw f at (motor_small c.in_ok-motor.motor) in
    let all = with-answer (λ b. request-pending a.bank.now b (search rules) a.motor small (search rules) (search rules)) in
    rw e (record { value = all.0; called = all.1 })

pub returns-then-flag : goal.returns-then-flag
returns-then-flag c =
    let a = c.args in
    let e : c.in_ok-state.state.now ≡ a.bank.now = search rules in
    let m : some (motor_of c.in_ok-motor.motor) ≡ motor_at a.motor = search rules in
    let f : motor_of c.in_ok-motor.motor ≡ a.motor = found m in
    let small = rw f at (motor_small c.in_ok-motor.motor) in
    let all = with-answer (λ b. request-faulted a.bank.now b (search rules) a.motor small (search rules)) in
    rw e (record { value = all.0; called = all.1 })

pub returns : goal.returns
returns c =
    let a = c.args in
    let e : c.in_ok-state.state.now ≡ a.bank.now = search rules in
    let m : some (motor_of c.in_ok-motor.motor) ≡ motor_at a.motor = search rules in
    let f : motor_of c.in_ok-motor.motor ≡ a.motor = found m in
    let small = rw f at (motor_small c.in_ok-motor.motor) in
    let all = with-answer (λ b. request-taken a.bank.now b (search rules) a.motor small (search rules) (search rules)) in
    rw (e, motor_tag c.in_ok-motor.motor, f) (record { value = all.0; called = all.1 })
