-- No call takes a bank out of bidirectional mode. Only `enable_bidirectional` takes one into it. For every number of lanes and every state.
-- Assumes nothing.
use mathlib.Core.Path.{◌≡◌, ◌∙◌, refl, sym, ap}
use Prim.Native.Nat.{ℕ}
use mathlib.Core.Bool.{Bool, true, false, true≢false}
use Rattle.dshot_bank_spec.specs.Calls.{Call, enable_bidirectional_call, command_stop_call, command_throttles_call, command_special_call, request_telemetry_call, cancel_telemetry_request_call, take_telemetry_request_sent, service_call, on_dma_interrupt_call, take_replies, is_bidirectional, is_faulted, stats, requested_values_call, command_pending_call, reply_stats, sending, lend, State, Stepped}
use Rattle.dshot_bank_spec.specs.Steps.{step}
use Rattle.dshot_bank_spec.proofs.UnchangedLaws.{still-holds}

-- all but the one that enables it
abbrev pub enables : Call → Bool
enables (enable_bidirectional_call receives) = true
enables command_stop_call = false
enables (command_throttles_call commands now lease) = false
enables (command_special_call motor sequence) = false
enables (request_telemetry_call motor) = false
enables cancel_telemetry_request_call = false
enables take_telemetry_request_sent = false
enables (service_call now taken present masks samples) = false
enables (on_dma_interrupt_call motor complete error turned back) = false
enables take_replies = false
enables is_bidirectional = false
enables is_faulted = false
enables stats = false
enables requested_values_call = false
enables command_pending_call = false
enables reply_stats = false
enables (sending motor) = false
enables (lend buffers) = false

module _ (n : ℕ) (s : State) where
  abbrev Same : Stepped → Type 0
  Same r = r.state.bank.core.frame.bidirectional ≡ s.bank.core.frame.bidirectional

  -- the source sets `bidirectional` only in `enable_bidirectional`
  pub mode-kept : (c : Call) → enables c ≡ false → Same (step n s c)
  mode-kept c e =
      still-holds (λ d mode. mode ≡ s.bank.core.frame.bidirectional) n (λ d mode h. h) s refl c
      (λ receives q. absurd (true≢false (sym (ap enables q) ∙ e)))
      (λ commands now lease q. refl)
