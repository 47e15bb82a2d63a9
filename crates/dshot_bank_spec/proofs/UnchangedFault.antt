-- No call takes a fault back. For every number of lanes and every state.
-- Assumes nothing.
use mathlib.Core.Path.{◌≡◌, ◌∙◌, refl, ap}
use Prim.Native.Nat.{ℕ}
use mathlib.Core.Bool.{Bool, true, not}
use Rattle.dshot_reply_spec.specs.Answer.{given}
use Rattle.dshot_reply_spec.specs.Answer as Reply
use Rattle.dshot_bank_spec.specs.State.{Core}
use Rattle.dshot_bank_spec.specs.Commands.{enable_bidirectional, command_stop, command_throttles, command_special, request_telemetry, cancel_telemetry_request, clear_request_sent}
use Rattle.dshot_bank_spec.specs.Calls.{Call, enable_bidirectional_call, command_stop_call, command_throttles_call, command_special_call, request_telemetry_call, cancel_telemetry_request_call, take_telemetry_request_sent, service_call, on_dma_interrupt_call, take_replies, is_bidirectional, is_faulted, stats, requested_values_call, command_pending_call, reply_stats, sending, lend, State, Stepped, commanded, act}
use Rattle.dshot_bank_spec.specs.Steps.{step}
use Rattle.dshot_bank_spec.specs.Interrupt.{Interrupted}
use Rattle.dshot_bank_spec.specs.Service.{Served}
use Rattle.dshot_bank_spec.proofs.FaultLaws.{faulted-serves, faulted-interrupts}
use Rattle.dshot_bank_spec.proofs.LaneLaws.{on, either}
use Rattle.dshot_bank_spec.proofs.Refusals.{either_step}

module _ (n : ℕ) (s : State) (f : s.bank.core.frame.faulted ≡ true) where
  abbrev Stays : Stepped → Type 0
  Stays r = r.state.bank.core.frame.faulted ≡ true

  enabled-stays : (receives : Bool) → Stays (commanded s (enable_bidirectional receives s.bank.core))
  unfolding enable_bidirectional
  enabled-stays receives = either (λ (a : Reply.Answer Core). Stays (commanded s a)) (not receives) f f

  -- a refusal stays with the state
  refused-stays : (a : Reply.Answer Core) (k : ℕ) → Reply.refused k ≡ a → Stays (commanded s a)
  refused-stays (given c) k e = cc
  refused-stays (Reply.refused j) k e = f

  act-stays : (c : Call) → Stays (act n s c)
  unfolding command_stop command_throttles command_special request_telemetry cancel_telemetry_request clear_request_sent
  act-stays (enable_bidirectional_call receives) = enabled-stays receives
  act-stays command_stop_call = f
  act-stays (command_throttles_call commands now lease) = refused-stays (command_throttles n commands now lease s.bank.core) 18 (on _ _ f refl)
  act-stays (command_special_call motor sequence) = refused-stays (command_special motor sequence s.bank.core) 18 (on _ _ f refl)
  act-stays (request_telemetry_call motor) = refused-stays (request_telemetry motor s.bank.core) 18 (on _ _ f refl)
  act-stays cancel_telemetry_request_call = f
  act-stays take_telemetry_request_sent = f
  act-stays (service_call now taken present masks samples) =
      let serves = faulted-serves s.bank.core f n now taken present masks samples s.bank.replies s.buffers in
      ap (λ (z : Served). z.bank.core.frame.faulted) serves ∙ f
  act-stays (on_dma_interrupt_call motor complete error turned back) =
      ap (λ (r : Interrupted). r.core.frame.faulted) (faulted-interrupts s.bank.core f n motor complete error turned back) ∙ f
  act-stays take_replies = f
  act-stays is_bidirectional = f
  act-stays is_faulted = f
  act-stays stats = f
  act-stays requested_values_call = f
  act-stays command_pending_call = f
  act-stays reply_stats = f
  act-stays (sending motor) = f
  act-stays (lend buffers) = f

  -- the source's "latched fault that forces all outputs low"
  pub fault-stays : (c : Call) → Stays (step n s c)
  fault-stays c = either_step n s c Stays (act-stays c) f
