-- What `command_special` refuses and queues, and when `command_pending` says that a run is pending. For every state, lane and run.
-- Assumes nothing.
use mathlib.Core.Path.{◌≡◌, ◌∙◌, refl, sym, ap}
use Prim.Native.Nat.{ℕ, ◌<◌}
use mathlib.Core.Bool.{Bool, true, false}
use mathlib.Core.Option.{Option, none, some}
use native.Mathlib.Omega.{arith}
use lib.ListN.{length, get_or}
use Rattle.dshot_reply_spec.specs.Answer as Reply
use Rattle.dshot_spec.specs.Command.{CommandRun}
use Rattle.dshot_bank_spec.specs.Lanes.{is_some}
use Rattle.dshot_bank_spec.specs.State.{MotorRun, Core}
use Rattle.dshot_bank_spec.specs.With.{with_command_sequence}
use Rattle.dshot_bank_spec.specs.Commands.{is_running, command_special}
use Rattle.dshot_bank_spec.specs.Calls.{command_special_call, command_pending_call, done, refused, flag, State, Stepped, told, changed, commanded}
use Rattle.dshot_bank_spec.specs.Steps.{port_refusal, step}
use Rattle.dshot_bank_spec.proofs.LaneLaws.{on, off, either}
use Rattle.dshot_bank_spec.proofs.PortLaws.{lane-there}
use Rattle.dshot_bank_spec.proofs.ThrottleLaws.{one-above, none_above, Stopped}

module _ (n : ℕ) (s : State) (motor : ℕ) (sequence : CommandRun) (there : motor < n) where
  abbrev queued : Stepped
  queued = step n s (command_special_call motor sequence)

  -- a lane that there is is not refused with 12
  special-acts : (a : Reply.Answer Core) → a ≡ command_special motor sequence s.bank.core → queued ≡ commanded s a
  unfolding step port_refusal
  special-acts a e = lane-there n s motor there (commanded s (command_special motor sequence s.bank.core)) ∙ ap (commanded s) (sym e)

  -- a faulted bank refuses a run with 18, whatever is demanded or pending: document 01, "state in the order 18 to 22"
  pub special-faulted : s.bank.core.frame.faulted ≡ true → queued ≡ told s (refused 18)
  unfolding command_special
  special-faulted f = special-acts (Reply.refused 18) (on _ _ f refl)

  module _ (f : s.bank.core.frame.faulted ≡ false) where
    -- then a lease refuses it with 19, though no value is above 0 and whatever is pending: document 01, "motors running or leased"
    pub special-leased : (d : ℕ) → s.bank.core.demand.lease_duration_ms ≡ some d → queued ≡ told s (refused 19)
    unfolding command_special
    special-leased d e = special-acts (Reply.refused 19) (off _ _ f (on _ _ (sym (on _ _ (ap is_some e) refl)) refl))

    -- and so does a value above 0, though there is no lease
    pub special-turning : (i : ℕ) → i < length s.bank.core.demand.requested_values → 0 < get_or s.bank.core.demand.requested_values i 0
        → queued ≡ told s (refused 19)
    unfolding command_special
    special-turning i l h =
        let d = s.bank.core.demand in
        special-acts (Reply.refused 19) (off _ _ f (on _ _
        (either (λ (b : Bool). b ≡ true) (is_some d.lease_duration_ms) refl (one-above 0 d.requested_values i l h)) refl))

    -- motors that are stopped do not count as running
    not-running : Stopped s.bank.core.demand → is_running s.bank.core.demand ≡ false
    not-running h =
        let values = s.bank.core.demand.requested_values in
        sym (off _ _ (ap is_some h.lease) (sym (none_above 0 values (λ i l. omega (arith, h.values i l)))))

    -- if all are stopped, a pending run refuses it with 20 (command pending)
    pub special-pending : Stopped s.bank.core.demand → (r : MotorRun) → s.bank.core.command_sequence ≡ some r → queued ≡ told s (refused 20)
    unfolding command_special
    special-pending h r e =
        special-acts (Reply.refused 20) (off _ _ f (off _ _ (not-running h) (on _ _ (ap is_some e) refl)))

    -- and else it is queued for its lane, and nothing else changes
    pub special-queued : Stopped s.bank.core.demand → s.bank.core.command_sequence ≡ none
        → queued ≡ changed s done (with_command_sequence (some (record { motor = motor; sequence = sequence })) s.bank.core)
    unfolding command_special
    special-queued h e =
        special-acts (Reply.given (with_command_sequence (some (record { motor = motor; sequence = sequence })) s.bank.core))
        (off _ _ f (off _ _ (not-running h) (off _ _ (ap is_some e) refl)))

    -- `command_pending` says yes if a run was queued, and no if none was
    pub queued-pending : Stopped s.bank.core.demand → s.bank.core.command_sequence ≡ none
        → ((step n s command_pending_call).answer ≡ flag false) × ((step n queued.state command_pending_call).answer ≡ flag true)
    unfolding step port_refusal
    queued-pending h e = (
      ap (λ (r : Option MotorRun). flag (is_some r)) e,
      ap (λ (t : Stepped). flag (is_some t.state.bank.core.command_sequence)) (special-queued h e),
    )
