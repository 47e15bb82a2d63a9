-- `bank_slots::interrupt::handle` meets its contract: one interrupt of a lane: each return is a case of the tests.
-- Assumes nothing.
use Rattle.std.proofs.Common.{ℕ, not, sym, ap, ◌∙◌}
use lib.Bits.{bit_and}
use Rattle.dshot_bank.specs.States.{motor_of}
use Rattle.bank_slots_spec.proofs.InterruptMoves.{on-faulted, on-idle, on-again, on-error, on-incomplete, on-complete}
use Rattle.bank_slots.proofs.interrupt.handle.Goals as goal
use Rattle.bank_slots.proofs.interrupt.handle.Goals.{then-not-flag-via-then-not-flag, then-not-flag-via-else-not-flag+then-word_at-completion_bit-ne0}

pub returns-then-flag : goal.returns-then-flag
returns-then-flag c =
    let a = c.args in
    on-faulted (motor_of a.motor) a.answers.transfer_complete a.answers.dma_error a.answers.turned a.answers.turned_back (sym c.flag.ensures ∙ c.if-flag.true) c.tell_paused.ensures

pub returns-then-not-flag : goal.returns-then-not-flag
returns-then-not-flag c =
    let a = c.args in
    let faults = sym c.flag.ensures ∙ c.if-flag.false in
    elim c.then-not-flag.branch [
      | then-not-flag-via-then-not-flag w ↦
          on-idle (motor_of a.motor) a.answers.transfer_complete a.answers.dma_error a.answers.turned a.answers.turned_back faults (ap not (sym c.flag-2.ensures) ∙ w.if-not-flag.true-raw) c.latched.ensures
      | then-not-flag-via-else-not-flag+then-word_at-completion_bit-ne0 w ↦
          on-again (motor_of a.motor) a.answers.transfer_complete a.answers.dma_error a.answers.turned a.answers.turned_back faults (ap not (sym c.flag-2.ensures) ∙ w.if-not-flag.false-raw) w.completion_bit.result w.completion_bit.ensures
          (λ e. w.if-word_at-completion_bit-ne0.true (ap (λ (m : ℕ). bit_and m w.completion_bit.result) w.word_at.ensures ∙ e)) c.latched.ensures
    ]

pub returns-then-answers : goal.returns-then-answers
returns-then-answers c =
    let a = c.args in
    let faults = sym c.flag.ensures ∙ c.if-flag.false in
    let idles = ap not (sym c.flag-2.ensures) ∙ c.if-not-flag.false-raw in
    let bit = c.completion_bit in
    let again = ap (λ (m : ℕ). bit_and m bit.result) (sym c.word_at.ensures) ∙ c.if-word_at-completion_bit-ne0.false in
    on-error (motor_of a.motor) a.answers.transfer_complete a.answers.dma_error a.answers.turned a.answers.turned_back faults idles bit.result bit.ensures again c.if-answers.true c.latched-then-answers.ensures

pub returns-then-not-answers : goal.returns-then-not-answers
returns-then-not-answers c =
    let a = c.args in
    let faults = sym c.flag.ensures ∙ c.if-flag.false in
    let idles = ap not (sym c.flag-2.ensures) ∙ c.if-not-flag.false-raw in
    let bit = c.completion_bit in
    let again = ap (λ (m : ℕ). bit_and m bit.result) (sym c.word_at.ensures) ∙ c.if-word_at-completion_bit-ne0.false in
    on-incomplete (motor_of a.motor) a.answers.transfer_complete a.answers.dma_error a.answers.turned a.answers.turned_back faults idles bit.result bit.ensures again c.if-answers.false c.if-not-answers.true c.latched-then-not-answers.ensures

pub returns : goal.returns
returns c =
    let a = c.args in
    let faults = sym c.flag.ensures ∙ c.if-flag.false in
    let idles = ap not (sym c.flag-2.ensures) ∙ c.if-not-flag.false-raw in
    let bit = c.completion_bit in
    let again = ap (λ (m : ℕ). bit_and m bit.result) (sym c.word_at.ensures) ∙ c.if-word_at-completion_bit-ne0.false in
    on-complete (motor_of a.motor) a.answers.transfer_complete a.answers.dma_error a.answers.turned a.answers.turned_back faults idles bit.result bit.ensures again c.if-answers.false c.if-not-answers.false c.lane_done.ensures c.after_lane.ensures
