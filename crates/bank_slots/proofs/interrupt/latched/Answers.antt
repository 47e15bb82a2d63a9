-- `bank_slots::interrupt::latched` meets its contract: a fault latched right after the lane's pause.
-- Assumes nothing.
use Rattle.std.proofs.Common.{[], ◌∷◌, refl, ◌∙◌}
use Rattle.dshot_bank.specs.Interrupts.{interrupt_event_of}
use Rattle.dshot_bank.specs.States.{motor_of}
use Rattle.bank_slots_spec.proofs.InterruptMoves.{handles-latched}
use Rattle.bank_slots.proofs.Tags.{interrupt_tag}
use Rattle.bank_slots.proofs.interrupt.latched.Goals as goal

pub returns : goal.returns
returns c =
    let a = c.args in
    handles-latched (motor_of a.motor) a.spurious c.latch_fault.ensures (c.tell.ensures ∙ (λ j. interrupt_tag a.event j ∷ 6 ∷ c.pause.ensures j ∷ 40 ∷ 48 ∷ 49 ∷ 50 ∷ 51 ∷ 0 ∷ [])) (interrupt_event_of a.event) refl
