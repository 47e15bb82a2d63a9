-- `dshot_bank::Core::after_lane` meets its contract. The orders of a fault that is latched behind two others are given here.
-- Assumes nothing.
use Rattle.std.proofs.Common.{not, sym, refl, ap, ◌∙◌, subst, eq-eqb}
use Rattle.dshot_bank_spec.proofs.LaneLaws.{on, off}
use Rattle.dshot_bank_spec.specs.Order.{begin_receive, end_receive}
use Rattle.dshot_bank_spec.specs.Interrupt.{after_lane}
use Rattle.dshot_bank_spec.specs.Interrupt as Spec
use Rattle.dshot_bank.specs.Interrupts.{interrupt_event_of, Interrupts}
use Rattle.dshot_bank.proofs.Core.after_lane.Goals as goal

pub returns-then-opens_window : goal.returns-then-opens_window
unfolding after_lane
returns-then-opens_window c =
    let h = c.latched.ensures in
    let opens = sym c.opens_window.ensures ∙ c.if-opens_window.true in
    subst (λ (s : Spec.Interrupted). Interrupts c.latched.result s)
    (off _ _ (ap not (eq-eqb _ 15 c.if-self-ne-ALL_MOTORS_COMPLETE.false)) (on _ _ opens (off _ _ c.if-answers.false refl)))
    (record { event = ap interrupt_event_of h.0; orders = h.1.0 _ (c.then-orders.ensures.2 _ begin_receive refl c.paused-paused.ensures.2); core = h.1.1 })

pub returns-then-self : goal.returns-then-self
unfolding after_lane
returns-then-self c =
    let h = c.latched-then-self.ensures in
    let opens = sym c.opens_window.ensures ∙ c.if-opens_window.false in
    subst (λ (s : Spec.Interrupted). Interrupts c.latched-then-self.result s)
    (off _ _ (ap not (eq-eqb _ 15 c.if-self-ne-ALL_MOTORS_COMPLETE.false)) (off _ _ opens (on _ _ c.if-self.true (off _ _ c.if-answers-2.false refl))))
    (record { event = ap interrupt_event_of h.0; orders = h.1.0 _ (c.then-orders-then-self.ensures.2 _ end_receive refl c.paused-paused.ensures.2); core = h.1.1 })
