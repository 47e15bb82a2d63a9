-- `bank_slots::interrupt::lane_done` meets its contract: the slots of a lane that has completed.
-- Assumes nothing.
use Rattle.std.proofs.Common.{◌+◌, ◌*◌, ℕ, true, false, sym, refl, ap, ◌∙◌, arith}
use borrow.Author.Tests.{eq-eqb, ne_eqb}
use lib.Bits.{bit_or}
use Rattle.dshot_bank.specs.States.{motor_of}
use Rattle.bank_slots_spec.specs.Places.{LANE_COMPLETIONS}
use Rattle.bank_slots_spec.specs.Parts.{bumped}
use Rattle.bank_slots_spec.proofs.InterruptMoves.{lane_done-moves}
use Rattle.bank_slots.proofs.Motors.{motor_small}
use Rattle.bank_slots.proofs.interrupt.lane_done.Goals as goal

pub bump-requires : goal.bump-requires
bump-requires c = omega (arith, c.index.ensures, motor_small c.args.motor)

pub returns-then-state-eq0 : goal.returns-then-state-eq0
returns-then-state-eq0 c =
    let w = c.word_at in
    let k = c.completion_bit in
    let m = c.args.motor in
    lane_done-moves c.args.state.now _ _ c.told-state (motor_of m) (bit_or w.result k.result) true (motor_small m) (λ j. bit_or (w.ensures j) (k.ensures j)) c.put_word.ensures
    (sym (eq-eqb _ 0 c.if-state-eq0.true))
    (c.bump.ensures ∙ ap (λ (i : ℕ). bumped (LANE_COMPLETIONS + 2 * i) c.put_word.new.state) c.index.ensures)

pub returns-else-state-eq0 : goal.returns-else-state-eq0
returns-else-state-eq0 c =
    let w = c.word_at in
    let k = c.completion_bit in
    let m = c.args.motor in
    lane_done-moves c.args.state.now _ _ c.told-state (motor_of m) (bit_or w.result k.result) false (motor_small m) (λ j. bit_or (w.ensures j) (k.ensures j)) c.put_word.ensures
    (sym (ne_eqb _ 0 c.if-state-eq0.false))
    refl
