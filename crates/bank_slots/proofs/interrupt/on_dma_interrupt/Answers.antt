-- `bank_slots::interrupt::on_dma_interrupt` meets its contract: an interrupt's call: a slice of another length, a lane above the last, or the step.
-- Assumes nothing.
use Rattle.std.proofs.Common.{◌≡◌, rules}
use mathlib.Core.Option.{some, none}
use Rattle.dshot_bank.specs.States.{motor_of, motor_at}
use Rattle.dshot_reply.specs.Refusals.{status_number}
use Rattle.bank_slots_spec.proofs.InterruptMoves.{call-refused, call-done}
use Rattle.bank_slots.proofs.Motors.{motor_small, found, missing}
use Rattle.bank_slots.proofs.interrupt.on_dma_interrupt.Goals as goal

pub returns-in_err-motor : goal.returns-in_err-motor
returns-in_err-motor c =
    let a = c.args in
    let e : c.in_ok-state.state.now ≡ a.bank.now = search rules in
    let o : c.in_ok-out.out.now ≡ a.out.now = search rules in
    let m : none ≡ motor_at a.motor = search rules in
    let r : status_number c.from_residual-in_err-motor.result ≡ 12 = search rules in
    let all = call-refused a.motor a.answers.transfer_complete a.answers.dma_error a.answers.turned a.answers.turned_back a.bank.now a.out.now (search rules) (search rules) (missing m) in
    rw (e, o, r) (record { called = all.0; out_after = all.1 })

pub returns : goal.returns
returns c =
    let a = c.args in
    let e : c.in_ok-state.state.now ≡ a.bank.now = search rules in
    let m : some (motor_of c.in_ok-motor.motor) ≡ motor_at a.motor = search rules in
    let f : motor_of c.in_ok-motor.motor ≡ a.motor = found m in
    let small = rw f at (motor_small c.in_ok-motor.motor) in
    let all = call-done a.motor a.answers.transfer_complete a.answers.dma_error a.answers.turned a.answers.turned_back a.bank.now a.out.now (search rules) (search rules) small (rw (e, f) at c.handle.ensures) in
    record { called = all.0; out_after = all.1 }
