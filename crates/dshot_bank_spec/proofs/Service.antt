-- What is left of a service after each of its tests, and that its frame is the bank's until it sends.
-- Assumes nothing.
use mathlib.Core.Path.{◌≡◌, ◌∙◌, refl, ap}
use Prim.Native.Nat.{ℕ}
use mathlib.Core.Bool.{Bool, false}
use mathlib.Core.List.{List}
use Rattle.dshot_reply_spec.specs.Answer.{pick}
use Rattle.dshot_bank_spec.specs.State.{Demand, Telemetry, Frame, Stats, Core, LaneReply, Buffers}
use Rattle.dshot_bank_spec.specs.With.{with_demand, with_telemetry, with_stats}
use Rattle.dshot_bank_spec.specs.Commands.{command_stop, clear_request_sent}
use Rattle.dshot_bank_spec.specs.Service.{Served, unsent, sending, service_busy, demand_expired, expire_lease, replies_read, read_replies, service_core}
use Rattle.dshot_bank_spec.proofs.LaneLaws.{off, either}

-- the core after the lease was looked at
abbrev pub leased_core : ℕ → ℕ → Core → Core
leased_core n now c = expire_lease n (demand_expired now (clear_request_sent c).demand) (clear_request_sent c)

-- the lease changes only demand, telemetry and counts
pub leased-keeps : {A : Type 0} (g : Core → A) (n now : ℕ) (c : Core)
    → ((d : Demand) (t : Telemetry) (k : Stats) → g (with_stats k (with_telemetry t (with_demand d c))) ≡ g c) → g (leased_core n now c) ≡ g c
unfolding expire_lease command_stop clear_request_sent
leased-keeps g n now c h = either (λ (x : Core). g x ≡ g c) (demand_expired now (clear_request_sent c).demand) (h _ _ _) (h _ _ _)

pub leased-frame : (n now : ℕ) (c : Core) → (leased_core n now c).frame ≡ c.frame
leased-frame n now c = leased-keeps (λ (x : Core). x.frame) n now c (λ d t k. refl)

module _ (n now : ℕ) (taken present : List Bool) (masks samples : List ℕ) (replies : List LaneReply) (buffers : Buffers) where
  -- no frame is in flight
  abbrev pub service_send : Bool → Core → Served
  service_send expired c =
      sending n now taken present masks samples replies buffers expired (replies_read c)
      (read_replies n c.frame.replies_waiting present masks samples replies)

  -- there is no fault
  abbrev pub service_open : Bool → Core → Served
  service_open expired c =
      pick c.frame.busy (unsent n now taken present masks samples replies buffers (service_busy n now expired c)) (service_send expired c)

  -- without a fault, and with no frame in flight, a service sends
  pub service-sends : (c : Core) → c.frame.faulted ≡ false → c.frame.busy ≡ false
      → service_send (demand_expired now (clear_request_sent c).demand) (leased_core n now c)
      ≡ service_core n now taken present masks samples replies buffers c
  unfolding service_core clear_request_sent
  service-sends c f b = off _ _ f (off _ _ (ap (λ (q : Frame). q.busy) (leased-frame n now c) ∙ b) refl)
