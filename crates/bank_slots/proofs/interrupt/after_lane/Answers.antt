-- `bank_slots::interrupt::after_lane` meets its contract: what follows a lane's completion: each return is a case of the tests.
-- Assumes nothing.
use Rattle.std.proofs.Common.{sym, refl, ◌∙◌}
use Rattle.dshot_bank_spec.specs.Order.{begin_receive, end_receive}
use Rattle.dshot_bank.specs.States.{motor_of}
use Rattle.bank_slots_spec.proofs.InterruptMoves.{after-some, after-opened, after-not-opened, after-closed, after-not-closed, after-sent}
use Rattle.bank_slots.proofs.interrupt.after_lane.Goals as goal

pub returns-then-word_at-ne-ALL_MOTORS_COMPLETE : goal.returns-then-word_at-ne-ALL_MOTORS_COMPLETE
returns-then-word_at-ne-ALL_MOTORS_COMPLETE c =
    let a = c.args in
    after-some (motor_of a.motor) a.answers.turned a.answers.turned_back (λ e. c.if-word_at-ne-ALL_MOTORS_COMPLETE.true (c.word_at.ensures ∙ e)) c.tell_paused.ensures

pub returns-then-not-answers : goal.returns-then-not-answers
returns-then-not-answers c =
    let a = c.args in
    let all = sym c.word_at.ensures ∙ c.if-word_at-ne-ALL_MOTORS_COMPLETE.false in
    let opens = sym c.opens_window.ensures ∙ c.if-opens_window.true in
    after-not-opened (motor_of a.motor) a.answers.turned a.answers.turned_back all opens c.if-not-answers.true (c.latched_turning.ensures begin_receive refl)

pub returns-then-opens_window : goal.returns-then-opens_window
returns-then-opens_window c =
    let a = c.args in
    let all = sym c.word_at.ensures ∙ c.if-word_at-ne-ALL_MOTORS_COMPLETE.false in
    let opens = sym c.opens_window.ensures ∙ c.if-opens_window.true in
    after-opened (motor_of a.motor) a.answers.turned a.answers.turned_back all opens c.if-not-answers.false c.window_opened.ensures c.tell_order.ensures

pub returns-then-not-answers-2 : goal.returns-then-not-answers-2
returns-then-not-answers-2 c =
    let a = c.args in
    let all = sym c.word_at.ensures ∙ c.if-word_at-ne-ALL_MOTORS_COMPLETE.false in
    let opens = sym c.opens_window.ensures ∙ c.if-opens_window.false in
    let receiving = sym c.flag.ensures ∙ c.if-flag.true in
    after-not-closed (motor_of a.motor) a.answers.turned a.answers.turned_back all opens receiving c.if-not-answers-2.true (c.latched_turning-then-not-answers-2.ensures end_receive refl)

pub returns-then-flag : goal.returns-then-flag
returns-then-flag c =
    let a = c.args in
    let all = sym c.word_at.ensures ∙ c.if-word_at-ne-ALL_MOTORS_COMPLETE.false in
    let opens = sym c.opens_window.ensures ∙ c.if-opens_window.false in
    let receiving = sym c.flag.ensures ∙ c.if-flag.true in
    after-closed (motor_of a.motor) a.answers.turned a.answers.turned_back all opens receiving c.if-not-answers-2.false c.window_closed.ensures c.tell_order-then-flag.ensures

pub returns : goal.returns
returns c =
    let a = c.args in
    let all = sym c.word_at.ensures ∙ c.if-word_at-ne-ALL_MOTORS_COMPLETE.false in
    let opens = sym c.opens_window.ensures ∙ c.if-opens_window.false in
    let receiving = sym c.flag.ensures ∙ c.if-flag.false in
    after-sent (motor_of a.motor) a.answers.turned a.answers.turned_back all opens receiving c.frame_done.ensures c.tell_order-2.ensures
