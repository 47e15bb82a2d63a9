-- `dshot_bank::DshotBank::on_dma_interrupt` meets its contract: the interrupt of the lane's motor, with its orders.
-- Assumes nothing.
use Rattle.std.proofs.Common.{◌≡◌, ℕ, Bool, true, false, ltb, replicate, sym, refl, ap, ◌∙◌}
use mathlib.Core.Option.{some, none, none-ne-some, some-injective}
use Rattle.dshot_reply_spec.specs.Answer.{pick}
use Rattle.dshot_reply_spec.specs.Refusals.{no_such_motor}
use Rattle.dshot_bank_spec.specs.Interrupt as Spec
use Rattle.dshot_bank_spec.specs.Calls.{Call, interrupted, on_dma_interrupt_call, act}
use Rattle.dshot_bank_spec.specs.Steps.{lane_refusal, refuse_or, port_refusal, step}
use Rattle.dshot_bank.specs.States.{motor_of, motor_at, core_of, replies_of, state_of}
use Rattle.dshot_bank.proofs.OrderLaws.{back, just, quiet-interrupt, whole-quiet}
use Rattle.dshot_bank.proofs.DshotBank.on_dma_interrupt.Goals as goal

-- a motor that is found is that of the lane, and the port has such a lane
found : (m i : ℕ) → some m ≡ motor_at i → (m ≡ i) × (lane_refusal 4 i ≡ 0)
found m i e = at (ltb i 4) e
  where
    at : (t : Bool) → some m ≡ pick t (some i) none → (m ≡ i) × (pick t 0 no_such_motor ≡ 0)
    at true h = (some-injective _ _ h, refl)
    at false h = absurd (none-ne-some _ (sym h))

pub returns : goal.returns
unfolding step port_refusal
returns c =
    let a = c.args in
    let k = core_of a.self.core in
    let m = c.in-Some.motor in
    let call : ℕ → Call = λ i. on_dma_interrupt_call i a.answers.transfer_complete a.answers.dma_error a.answers.turned a.answers.turned_back in
    let s = Spec.on_dma_interrupt 4 (motor_of m) a.answers.transfer_complete a.answers.dma_error a.answers.turned a.answers.turned_back k in
    let h = c.on_dma_interrupt-handled.ensures in
    let orders = c.on_dma_interrupt-handled.result.orders in
    let quiet = quiet-interrupt m a.answers.transfer_complete a.answers.dma_error a.answers.turned a.answers.turned_back k in
    let told = back orders (replicate 4 0) s.orders h.orders quiet.duties (whole-quiet s.orders quiet) in
    let f = found (motor_of m) a.motor c.in-Some.ensures in
    record {
      b_value = λ b.
          let t = state_of a.self b in
          (λ j. record { answer = interrupted (h.event j) (told j); state = record { bank = record { core = h.core j; replies = replies_of a.self.replies }; buffers = b } })
          ∙ ap (λ (i : ℕ). act 4 t (call i)) f.0
          ∙ sym (ap (λ (n : ℕ). refuse_or t n (act 4 t (call a.motor))) f.1);
      just = just orders (replicate 4 0) s.orders _ h.orders quiet.duties told;
    }
