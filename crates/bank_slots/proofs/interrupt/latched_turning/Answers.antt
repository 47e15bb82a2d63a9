-- `bank_slots::interrupt::latched_turning` meets its contract: a fault latched after lanes that could not turn around.
-- Assumes nothing.
use Rattle.std.proofs.Common.{◌∙◌, ap, ◌∷◌, ℕ, List, []}
use Rattle.dshot_bank.specs.States.{motor_of}
use Rattle.bank_slots_spec.proofs.InterruptMoves.{handles-turning}
use Rattle.bank_slots.proofs.interrupt.latched_turning.Goals as goal

pub returns : goal.returns
returns c = λ o e.
    handles-turning (motor_of c.args.motor) o c.latch_fault.ensures (c.tell.ensures ∙ ap {B = List ℕ} (λ (p : ℕ). 1 ∷ 7 ∷ p ∷ c.args.order ∷ 40 ∷ 48 ∷ 49 ∷ 50 ∷ 51 ∷ []) c.pause.ensures) e
