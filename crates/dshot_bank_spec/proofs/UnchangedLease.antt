-- No call makes a lease longer than the longest that was asked for. So a lease of 32 bits stays one. For every number of lanes, state and bound.
-- Assumes nothing.
use mathlib.Core.Path.{ap, subst}
use mathlib.Core.Option.{Option, none, some}
use Prim.Native.Nat.{ℕ, ◌<◌}
use Rattle.dshot_bank_spec.specs.Calls.{Call, enable_bidirectional_call, command_stop_call, command_throttles_call, command_special_call, request_telemetry_call, cancel_telemetry_request_call, take_telemetry_request_sent, service_call, on_dma_interrupt_call, take_replies, is_bidirectional, is_faulted, stats, requested_values_call, command_pending_call, reply_stats, sending, lend, State}
use Rattle.dshot_bank_spec.specs.Steps.{step}
use Rattle.dshot_bank_spec.proofs.UnchangedLaws.{still-holds}

-- a lease below a bound, or none
abbrev pub LeaseBelow : ℕ → Option ℕ → Type 0
LeaseBelow bound none = Unit
LeaseBelow bound (some duration) = duration < bound

-- the lease that a call asks for
abbrev pub asked_lease : Call → Option ℕ
asked_lease (command_throttles_call commands now lease) = some lease
asked_lease (enable_bidirectional_call receives) = none
asked_lease command_stop_call = none
asked_lease (command_special_call motor sequence) = none
asked_lease (request_telemetry_call motor) = none
asked_lease cancel_telemetry_request_call = none
asked_lease take_telemetry_request_sent = none
asked_lease (service_call now taken present masks samples) = none
asked_lease (on_dma_interrupt_call motor complete error turned back) = none
asked_lease take_replies = none
asked_lease is_bidirectional = none
asked_lease is_faulted = none
asked_lease stats = none
asked_lease requested_values_call = none
asked_lease command_pending_call = none
asked_lease reply_stats = none
asked_lease (sending motor) = none
asked_lease (lend buffers) = none

module _ (bound n : ℕ) (s : State) (h : LeaseBelow bound s.bank.core.demand.lease_duration_ms) where
  -- if the lease before a call and the one that it asks for are below a bound, so is the lease after it
  pub lease-below : (c : Call) → LeaseBelow bound (asked_lease c) → LeaseBelow bound (step n s c).state.bank.core.demand.lease_duration_ms
  lease-below c l =
      still-holds (λ d mode. LeaseBelow bound d.lease_duration_ms) n (λ d mode k. tt) s h c
      (λ receives q. h)
      (λ commands now lease q. subst (LeaseBelow bound) (ap asked_lease q) l)
