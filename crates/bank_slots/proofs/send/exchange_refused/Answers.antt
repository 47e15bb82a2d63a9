-- `bank_slots::send::exchange_refused` meets its contract: an exchange that is refused: marks turned, and a fault latched.
-- Assumes nothing.
use Rattle.std.proofs.Common.{ℕ, subst, arith}
use Rattle.dshot_bank.specs.States.{motor_of}
use Rattle.bank_slots_spec.specs.Moves.{Moves, on_core}
use Rattle.bank_slots_spec.specs.Parts.{marks_turned}
use Rattle.bank_slots_spec.proofs.SendMoves.{exchange-refused}
use Rattle.bank_slots.proofs.Motors.{motor_small}
use Rattle.bank_slots.proofs.send.exchange_refused.Goals as goal

pub turn_marks-requires : goal.turn_marks-requires
turn_marks-requires c = omega (arith, c.index.ensures, motor_small c.args.motor)

pub returns : goal.returns
returns c =
    let m = c.args.motor in
    let marks = subst (λ (k : ℕ). Moves (on_core (marks_turned k)) c.args.state.now c.turn_marks.new.state) (omega (arith, c.index.ensures, motor_small m)) c.turn_marks.ensures in
    exchange-refused (motor_of m) marks c.latch_fault.ensures
