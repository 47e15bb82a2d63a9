-- The calls that leave a run of commands as it was: all except those that queue one, send a frame, or may latch a fault. For every state.
-- Assumes nothing.
use mathlib.Core.Path.{◌≡◌, refl}
use Prim.Native.Nat.{ℕ}
use mathlib.Core.Bool.{Bool, true, false, not}
use mathlib.Core.List.{List}
use lib.Dec.{ltb}
use Rattle.dshot_reply_spec.specs.Answer as Reply
use Rattle.dshot_bank_spec.specs.Lanes.{any, is_some}
use Rattle.dshot_bank_spec.specs.State.{Core}
use Rattle.dshot_bank_spec.specs.Commands.{any_requested, enable_bidirectional, command_stop, command_throttles, request_telemetry, cancel_telemetry_request, clear_request_sent}
use Rattle.dshot_bank_spec.specs.Calls.{Call, enable_bidirectional_call, command_stop_call, command_throttles_call, command_special_call, request_telemetry_call, cancel_telemetry_request_call, take_telemetry_request_sent, service_call, on_dma_interrupt_call, take_replies, is_bidirectional, is_faulted, stats, requested_values_call, command_pending_call, reply_stats, sending, lend, State, Stepped, commanded, act}
use Rattle.dshot_bank_spec.specs.Steps.{step}
use Rattle.dshot_bank_spec.proofs.LaneLaws.{either}
use Rattle.dshot_bank_spec.proofs.Refusals.{either_step}

abbrev pub may_change_run : Call → Bool
may_change_run (enable_bidirectional_call receives) = false
may_change_run command_stop_call = false
may_change_run (command_throttles_call commands now lease) = false
may_change_run (command_special_call motor sequence) = true
may_change_run (request_telemetry_call motor) = false
may_change_run cancel_telemetry_request_call = false
may_change_run take_telemetry_request_sent = false
may_change_run (service_call now taken present masks samples) = true
may_change_run (on_dma_interrupt_call motor complete error turned back) = true
may_change_run take_replies = false
may_change_run is_bidirectional = false
may_change_run is_faulted = false
may_change_run stats = false
may_change_run requested_values_call = false
may_change_run command_pending_call = false
may_change_run reply_stats = false
may_change_run (sending motor) = false
may_change_run (lend buffers) = false

module _ (n : ℕ) (s : State) where
  abbrev Keeps : Stepped → Type 0
  Keeps r = r.state.bank.core.command_sequence ≡ s.bank.core.command_sequence

  abbrev KeepsIfGiven : Reply.Answer Core → Type 0
  KeepsIfGiven a = Keeps (commanded s a)

  enable-keeps : (receives : Bool) → KeepsIfGiven (enable_bidirectional receives s.bank.core)
  unfolding enable_bidirectional
  enable-keeps receives = either KeepsIfGiven (not receives) refl refl

  throttles-keep : (commands : List ℕ) (now lease : ℕ) → KeepsIfGiven (command_throttles n commands now lease s.bank.core)
  unfolding command_throttles command_stop
  throttles-keep commands now lease =
      either KeepsIfGiven s.bank.core.frame.faulted refl
      (either KeepsIfGiven (any (ltb 2000) commands) refl (either KeepsIfGiven (not (any_requested commands)) refl refl))

  request-keeps : (motor : ℕ) → KeepsIfGiven (request_telemetry motor s.bank.core)
  unfolding request_telemetry
  request-keeps motor =
      either KeepsIfGiven s.bank.core.frame.faulted refl (either KeepsIfGiven (is_some s.bank.core.telemetry.request) refl refl)

  act-keeps : (c : Call) → may_change_run c ≡ false → Keeps (act n s c)
  unfolding command_stop cancel_telemetry_request clear_request_sent
  act-keeps (enable_bidirectional_call receives) e = enable-keeps receives
  act-keeps command_stop_call e = refl
  act-keeps (command_throttles_call commands now lease) e = throttles-keep commands now lease
  act-keeps (command_special_call motor sequence) e = cc
  act-keeps (request_telemetry_call motor) e = request-keeps motor
  act-keeps cancel_telemetry_request_call e = refl
  act-keeps take_telemetry_request_sent e = refl
  act-keeps (service_call now taken present masks samples) e = cc
  act-keeps (on_dma_interrupt_call motor complete error turned back) e = cc
  act-keeps take_replies e = refl
  act-keeps is_bidirectional e = refl
  act-keeps is_faulted e = refl
  act-keeps stats e = refl
  act-keeps requested_values_call e = refl
  act-keeps command_pending_call e = refl
  act-keeps reply_stats e = refl
  act-keeps (sending motor) e = refl
  act-keeps (lend buffers) e = refl

  -- document 01: "A demand stopped or expired before that leaves the run"
  pub run-kept : (c : Call) → may_change_run c ≡ false → Keeps (step n s c)
  run-kept c e = either_step n s c Keeps (act-keeps c e) refl
