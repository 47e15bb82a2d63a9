-- A frame without a command carries a pending telemetry request. A frame of a command does not. For every number of lanes and every state.
-- Assumes nothing.
use mathlib.Core.Path.{◌≡◌, ◌∙◌, refl, ap}
use Prim.Native.Nat.{ℕ, ◌<◌, ◌≤◌}
use mathlib.Core.Bool.{Bool, true, false, not}
use mathlib.Core.List.{List}
use mathlib.Core.Option.{Option, none, some}
use native.Mathlib.Omega.{arith}
use borrow.Author.Tests.{eq-eqb}
use lib.Dec.{eqb}
use lib.ListN.{get_or, replicate, length-replicate, get_or-replicate}
use lib.Seq.{get_or-set_same, get_or-set_other}
use Rattle.dshot_spec.specs.Packet.{asks}
use Rattle.dshot_bank_spec.specs.Lanes.{position}
use Rattle.dshot_bank_spec.specs.State.{Telemetry, Core, LaneReply, Buffers}
use Rattle.dshot_bank_spec.specs.Commands.{MotorCommand, next_command_frame}
use Rattle.dshot_bank_spec.specs.FrameSet.{as_lane, frame_set, next_set}
use Rattle.dshot_bank_spec.specs.Send.{carry, frame_started}
use Rattle.dshot_bank_spec.specs.Service.{service_core}
use Rattle.dshot_bank_spec.specs.SentClaim.{sending_core}
use Rattle.dshot_bank_spec.proofs.LeaseEnds.{read_keeps}
use Rattle.dshot_bank_spec.proofs.Service.{leased_core}
use Rattle.dshot_bank_spec.proofs.ServiceLaws.{leased-telemetry}
use Rattle.dshot_bank_spec.proofs.SendLaws.{send-starts, served-core}

-- ---- the set that is sent

module _ (n : ℕ) (c : Core) where
  -- a command's set has the telemetry bit on the command's own lane, and its value there
  pub command-set : (m : MotorCommand) → (next_command_frame c).command ≡ some m → m.motor < n
      → (asks (next_set n c).telemetry_lane m.motor ≡ true) × (get_or (next_set n c).values m.motor 0 ≡ m.command)
  command-set m e l = (
    ap (λ (o : Option MotorCommand). asks (frame_set n c o).telemetry_lane m.motor) e ∙ eq-eqb m.motor m.motor refl,
    ap (λ (o : Option MotorCommand). get_or (frame_set n c o).values m.motor 0) e
        ∙ get_or-set_same (replicate n 0) m.motor m.command 0 (omega (arith, length-replicate {A = ℕ} n 0)),
  )

  -- and 0 and no bit on every other
  pub command-rest : (m : MotorCommand) → (next_command_frame c).command ≡ some m → (lane : ℕ) → lane < n → (lane ≡ m.motor → ⊥)
      → (asks (next_set n c).telemetry_lane lane ≡ eqb m.motor lane) × (get_or (next_set n c).values lane 0 ≡ 0)
  command-rest m e lane l ne = (
    ap (λ (o : Option MotorCommand). asks (frame_set n c o).telemetry_lane lane) e,
    ap (λ (o : Option MotorCommand). get_or (frame_set n c o).values lane 0) e
        ∙ get_or-set_other (replicate n 0) m.motor lane m.command 0 ne
        ∙ get_or-replicate n lane 0 0 l,
  )

  -- an ordinary set has the values that are requested, and the bit on the lane that is asked
  pub ordinary-values : (next_command_frame c).command ≡ none → (next_set n c).values ≡ c.demand.requested_values
  ordinary-values e = ap (λ (o : Option MotorCommand). (frame_set n c o).values) e

  pub ordinary-asks : (next_command_frame c).command ≡ none → (m : ℕ) → c.telemetry.request ≡ some m → (lane : ℕ)
      → asks (next_set n c).telemetry_lane lane ≡ eqb m lane
  ordinary-asks e m q lane =
      ap (λ (o : Option MotorCommand). asks (frame_set n c o).telemetry_lane lane) e ∙ ap (λ (r : Option ℕ). asks (as_lane r) lane) q

-- ---- what a service that starts a frame leaves of the request: `send_requested`

module _ (n now : ℕ) (taken present : List Bool) (masks samples : List ℕ) (replies : List LaneReply) (buffers : Buffers) (c : Core)
    (f : c.frame.faulted ≡ false) (idle : c.frame.busy ≡ false) (all : n ≤ position not taken) where
  abbrev left : Telemetry
  left = (service_core n now taken present masks samples replies buffers c).bank.core.telemetry

  abbrev before : Core
  before = sending_core n now c

  -- it comes to send with the pending request, and with none that was sent
  sending-telemetry : before.telemetry ≡ record { request = c.telemetry.request; request_sent = none }
  sending-telemetry = read_keeps (λ (x : Core). x.telemetry) (λ q x. refl) (leased_core n now c) ∙ leased-telemetry n now c

  left_by : (o : Option MotorCommand) → (next_command_frame before).command ≡ o → left ≡ carry (frame_set n before o).telemetry_request before.telemetry
  unfolding frame_started
  left_by o e =
      served-core n now taken present masks samples replies buffers c f idle (λ (x : Core). x.telemetry) (send-starts n now taken before all)
      ∙ ap (λ (r : Option MotorCommand). carry (frame_set n before r).telemetry_request before.telemetry) e

  -- if it sends a command, the request stays pending, and none counts as sent
  pub command-leaves : (m : MotorCommand) → (next_command_frame before).command ≡ some m
      → left ≡ record { request = c.telemetry.request; request_sent = none }
  command-leaves m e = left_by (some m) e ∙ sending-telemetry

  -- an ordinary frame carries it: it counts as sent, and is no longer pending
  pub ordinary-carries : (next_command_frame before).command ≡ none → (m : ℕ) → c.telemetry.request ≡ some m
      → left ≡ record { request = none; request_sent = some m }
  ordinary-carries e m q =
      left_by none e
      ∙ ap (λ (t : Telemetry). carry t.request t) sending-telemetry
      ∙ ap (λ (r : Option ℕ). carry r (record { request = r; request_sent = none })) q

  -- and if none is pending, none counts as sent
  pub none-carried : (next_command_frame before).command ≡ none → c.telemetry.request ≡ none → left ≡ record { request = none; request_sent = none }
  none-carried e q =
      left_by none e
      ∙ ap (λ (t : Telemetry). carry t.request t) sending-telemetry
      ∙ ap (λ (r : Option ℕ). carry r (record { request = r; request_sent = none })) q
