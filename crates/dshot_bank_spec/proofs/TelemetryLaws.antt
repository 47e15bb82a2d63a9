-- What `request_telemetry` refuses and sets, what `cancel_telemetry_request` clears, and that a sent request is handed out once. For every state.
-- Assumes nothing.
use mathlib.Core.Path.{◌≡◌, ◌∙◌, refl, sym, ap}
use Prim.Native.Nat.{ℕ, ◌<◌}
use mathlib.Core.Bool.{true, false}
use mathlib.Core.Option.{none, some}
use Rattle.dshot_reply_spec.specs.Answer as Reply
use Rattle.dshot_bank_spec.specs.Lanes.{is_some}
use Rattle.dshot_bank_spec.specs.State.{Telemetry, Core}
use Rattle.dshot_bank_spec.specs.With.{with_telemetry}
use Rattle.dshot_bank_spec.specs.Commands.{request_telemetry, cancel_telemetry_request, clear_request_sent}
use Rattle.dshot_bank_spec.specs.Calls.{request_telemetry_call, cancel_telemetry_request_call, take_telemetry_request_sent, done, refused, motor_sent, State, Stepped, told, changed, commanded}
use Rattle.dshot_bank_spec.specs.Steps.{port_refusal, step}
use Rattle.dshot_bank_spec.proofs.LaneLaws.{on, off}
use Rattle.dshot_bank_spec.proofs.PortLaws.{lane-there}

-- ---- request_telemetry

module _ (n : ℕ) (s : State) (motor : ℕ) (there : motor < n) where
  abbrev requested : Stepped
  requested = step n s (request_telemetry_call motor)

  request-acts : (a : Reply.Answer Core) → a ≡ request_telemetry motor s.bank.core → requested ≡ commanded s a
  unfolding step port_refusal
  request-acts a e = lane-there n s motor there (commanded s (request_telemetry motor s.bank.core)) ∙ ap (commanded s) (sym e)

  -- a faulted bank refuses it with 18, whatever is pending: document 01, "state in the order 18 to 22"
  pub request-faulted : s.bank.core.frame.faulted ≡ true → requested ≡ told s (refused 18)
  unfolding request_telemetry
  request-faulted f = request-acts (Reply.refused 18) (on _ _ f refl)

  module _ (f : s.bank.core.frame.faulted ≡ false) where
    -- then one that is pending, of any lane, refuses it with 21
    pub request-pending : (m : ℕ) → s.bank.core.telemetry.request ≡ some m → requested ≡ told s (refused 21)
    unfolding request_telemetry
    request-pending m e = request-acts (Reply.refused 21) (off _ _ f (on _ _ (ap is_some e) refl))

    abbrev asked : Telemetry
    asked = record { request = some motor; request_sent = s.bank.core.telemetry.request_sent }

    -- and else it is pending for its lane, and nothing else changes
    pub request-taken : s.bank.core.telemetry.request ≡ none → requested ≡ changed s done (with_telemetry asked s.bank.core)
    unfolding request_telemetry
    request-taken e = request-acts (Reply.given (with_telemetry asked s.bank.core)) (off _ _ f (off _ _ (ap is_some e) refl))

-- ---- cancel_telemetry_request, take_telemetry_request_sent

module _ (n : ℕ) (s : State) where
  abbrev old : Telemetry
  old = s.bank.core.telemetry

  -- a cancel leaves no request pending, and the one that was sent as it was
  pub cancel-clears : step n s cancel_telemetry_request_call
      ≡ changed s done (with_telemetry (record { request = none; request_sent = old.request_sent }) s.bank.core)
  unfolding step port_refusal cancel_telemetry_request
  cancel-clears = refl

  -- what was sent is handed out
  pub sent-told : (step n s take_telemetry_request_sent).answer ≡ motor_sent old.request_sent
  unfolding step port_refusal
  sent-told = refl

  -- once: a second take has none
  pub sent-once : (step n (step n s take_telemetry_request_sent).state take_telemetry_request_sent).answer ≡ motor_sent none
  unfolding step port_refusal clear_request_sent
  sent-once = refl

  -- and the pending request stays, with all else
  pub sent-keeps : (step n s take_telemetry_request_sent).state
      ≡ (changed s done (with_telemetry (record { request = old.request; request_sent = none }) s.bank.core)).state
  unfolding step port_refusal clear_request_sent
  sent-keeps = refl
