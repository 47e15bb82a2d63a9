-- How a run of commands goes on. A throttle demand cancels it only when a frame is about to start. For every state.
-- Assumes nothing.
use mathlib.Core.Path.{◌≡◌, ◌∙◌, refl, sym, ap, subst}
use Prim.Native.Nat.{ℕ, ◌<◌, ◌≤◌}
use mathlib.Core.Bool.{Bool, false, not}
use mathlib.Core.List.{List}
use mathlib.Core.Option.{Option, none, some}
use native.Mathlib.Omega.{arith}
use lib.Dec.{ltb}
use lib.ListN.{length, get_or}
use Rattle.dshot_spec.specs.Command.{CommandRun, Next, send, next_value}
use Rattle.dshot_spec.specs.Command as Command
use Rattle.dshot_bank_spec.specs.Lanes.{position}
use Rattle.dshot_bank_spec.specs.State.{Demand, MotorRun, Core, LaneReply, Buffers}
use Rattle.dshot_bank_spec.specs.Commands.{NextFrame, command_stop, next_of, next_of_run, next_command_frame}
use Rattle.dshot_bank_spec.specs.Send.{Sent, latch_fault, exchange_refused, frame_started, exchange_buffers, send_requested}
use Rattle.dshot_bank_spec.specs.Service.{demand_expired, service_core}
use Rattle.dshot_bank_spec.specs.SentClaim.{sending_core}
use Rattle.dshot_bank_spec.proofs.LaneLaws.{on, off, either}
use Rattle.dshot_bank_spec.proofs.LeaseEnds.{read_keeps}
use Rattle.dshot_bank_spec.proofs.LeaseHolds.{lease-holds}
use Rattle.dshot_bank_spec.proofs.Service.{leased_core}
use Rattle.dshot_bank_spec.proofs.ServiceLaws.{leased-run}
use Rattle.dshot_bank_spec.proofs.SendLaws.{send-starts, served-core}
use Rattle.dshot_bank_spec.proofs.ThrottleLaws.{one-above, none_above}

-- ---- the next frame of a run: `next_command_frame`

module _ (c : Core) where
  -- a value that is requested cancels it
  pub next-cancelled : (i : ℕ) → i < length c.demand.requested_values → 0 < get_or c.demand.requested_values i 0
      → next_command_frame c ≡ record { command = none; left = none }
  unfolding next_command_frame
  next-cancelled i l h = sym (on _ _ (one-above 0 c.demand.requested_values i l h) refl)

  module _ (zero : (i : ℕ) → i < length c.demand.requested_values → get_or c.demand.requested_values i 0 ≡ 0) where
    next-of : (r : Option MotorRun) → c.command_sequence ≡ r → next_command_frame c ≡ next_of_run r
    unfolding next_command_frame
    next-of r e = sym (off _ _ (none_above 0 c.demand.requested_values (λ i l. omega (arith, zero i l))) refl) ∙ ap next_of_run e

    -- with all values 0 its next command is sent on its lane, and one frame less is left of it
    pub next-sent : (r : MotorRun) (v : ℕ) (rest : CommandRun) → c.command_sequence ≡ some r
        → next_value 10 r.sequence ≡ record { command = send v; run = rest }
        → next_command_frame c
        ≡ record { command = some (record { motor = r.motor; command = v }); left = some (record { motor = r.motor; sequence = rest }) }
    next-sent r v rest e k = next-of (some r) e ∙ ap (λ (x : Next). next_of r.motor x.command x.run) k

    -- and a run that is spent is cleared
    pub next-spent : (r : MotorRun) (rest : CommandRun) → c.command_sequence ≡ some r
        → next_value 10 r.sequence ≡ record { command = Command.none; run = rest }
        → next_command_frame c ≡ record { command = none; left = none }
    next-spent r rest e k = next-of (some r) e ∙ ap (λ (x : Next). next_of r.motor x.command x.run) k

-- ---- a service

-- a lease that expires leaves it: the service comes to send with it as it was
pub lease-keeps-run : (n now : ℕ) (c : Core) → (sending_core n now c).command_sequence ≡ c.command_sequence
lease-keeps-run n now c = read_keeps (λ (x : Core). x.command_sequence) (λ f x. refl) (leased_core n now c) ∙ leased-run n now c

module _ (n now : ℕ) (taken present : List Bool) (masks samples : List ℕ) (replies : List LaneReply) (buffers : Buffers) (c : Core)
    (f : c.frame.faulted ≡ false) (idle : c.frame.busy ≡ false) where
  abbrev after : Option MotorRun
  after = (service_core n now taken present masks samples replies buffers c).bank.core.command_sequence

  -- If a throttle demand is in force when a frame is about to start, it cancels a run. Document 01: "only if a frame starts while it is in force".
  pub demand-cancels : demand_expired now c.demand ≡ false
      → (i : ℕ) → i < length c.demand.requested_values → 0 < get_or c.demand.requested_values i 0 → after ≡ none
  unfolding send_requested exchange_buffers exchange_refused latch_fault command_stop frame_started
  demand-cancels e i l h =
      let k = sending_core n now c in
      let same = sym (lease-holds n now c e) in
      let l' = subst (λ (d : Demand). i < length d.requested_values) same l in
      let h' = subst (λ (d : Demand). 0 < get_or d.requested_values i 0) same h in
      let gone : (next_command_frame k).left ≡ none = ap (λ (x : NextFrame). x.left) (next-cancelled k i l' h') in
      served-core n now taken present masks samples replies buffers c f idle (λ (x : Core). x.command_sequence) refl
      ∙ either (λ (x : Sent). x.core.command_sequence ≡ none) (ltb (position not taken) n) refl gone

  -- if a frame starts, what its next command leaves of the run is left
  pub run-goes-on : n ≤ position not taken → after ≡ (next_command_frame (sending_core n now c)).left
  unfolding frame_started
  run-goes-on h =
      let starts = send-starts n now taken (sending_core n now c) h in
      served-core n now taken present masks samples replies buffers c f idle (λ (x : Core). x.command_sequence) starts
