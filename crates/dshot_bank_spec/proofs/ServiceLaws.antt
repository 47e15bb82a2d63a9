-- What a service does while a frame is in flight: its event, its counts and what it leaves. For every number of lanes and every state.
-- Assumes nothing.
use mathlib.Core.Path.{◌≡◌, ◌∙◌, refl, sym, ap, subst}
use Prim.Native.Nat.{ℕ, ◌<◌, ◌≤◌}
use mathlib.Core.Bool.{Bool, true, false}
use mathlib.Core.List.{List, []}
use mathlib.Core.Option.{none}
use Rattle.dshot_reply_spec.specs.Answer.{pick}
use Rattle.dshot_spec.specs.Lease.{elapsed, lease_expired}
use Rattle.dshot_spec.proofs.LeaseLaws.{lease-within, lease-above}
use Rattle.dshot_bank_spec.specs.State.{Telemetry, Frame, Stats, Core, LaneReply, Buffers}
use Rattle.dshot_bank_spec.specs.With.{with_lease_expiries}
use Rattle.dshot_bank_spec.specs.Order.{latch_orders}
use Rattle.dshot_bank_spec.specs.Commands.{command_stop, clear_request_sent}
use Rattle.dshot_bank_spec.specs.Replies.{wrapping_add}
use Rattle.dshot_bank_spec.specs.Send.{latch_fault}
use Rattle.dshot_bank_spec.specs.Service.{ServiceEvent, busy, lease_expired_event, faulted, Served, Skipped, unsent, skipped, demand_expired, expire_lease, count_busy_skip, count_timeout, service_busy, service_core}
use Rattle.dshot_bank_spec.proofs.LaneLaws.{on, off, either, under}
use Rattle.dshot_bank_spec.proofs.FaultLaws.{Latched, latch-clears, fault-counted}
use Rattle.dshot_bank_spec.proofs.Service.{leased_core, leased-keeps, leased-frame}

-- the lease changes none of the counts but that of expiries
pub leased-counts : (g : Stats → ℕ) (n now : ℕ) (c : Core) → ((k : ℕ) → g (with_lease_expiries k c.stats) ≡ g c.stats)
    → g (leased_core n now c).stats ≡ g c.stats
unfolding expire_lease command_stop clear_request_sent
leased-counts g n now c h = either (λ (x : Core). g x.stats ≡ g c.stats) (demand_expired now (clear_request_sent c).demand) (h _) refl

-- and of the telemetry only what was sent
pub leased-telemetry : (n now : ℕ) (c : Core) → (leased_core n now c).telemetry ≡ record { request = c.telemetry.request; request_sent = none }
unfolding expire_lease command_stop clear_request_sent
leased-telemetry n now c =
    let left : Core → Type 0 = λ x. x.telemetry ≡ record { request = c.telemetry.request; request_sent = none } in
    either left (demand_expired now (clear_request_sent c).demand) refl refl

-- and leaves a run of commands
pub leased-run : (n now : ℕ) (c : Core) → (leased_core n now c).command_sequence ≡ c.command_sequence
leased-run n now c = leased-keeps (λ (x : Core). x.command_sequence) n now c (λ d t k. refl)

-- ---- what a service can do with a frame in flight: served, of a bank with the core c

-- it leaves the frame in flight as it is
pub record Skips (expired : Bool) (c : Core) (replies : List LaneReply) (buffers : Buffers) (served : Served) : Type 0 where
  pub event : served.event ≡ pick expired lease_expired_event busy
  pub orders : served.orders ≡ []
  pub frame : served.bank.core.frame ≡ c.frame
  pub run : served.bank.core.command_sequence ≡ c.command_sequence
  pub request : served.bank.core.telemetry.request ≡ c.telemetry.request
  pub skips : served.bank.core.stats.busy_skips ≡ wrapping_add c.stats.busy_skips
  pub same_replies : served.bank.replies ≡ replies
  pub same_buffers : served.buffers ≡ buffers

-- it finds that it has timed out
pub record TimesOut (n : ℕ) (c : Core) (replies : List LaneReply) (buffers : Buffers) (served : Served) : Type 0 where
  pub event : served.event ≡ faulted
  pub orders : served.orders ≡ latch_orders n
  pub latched : Latched served.bank.core
  pub faults : served.bank.core.stats.dma_faults ≡ wrapping_add c.stats.dma_faults
  pub timeouts : served.bank.core.stats.frame_timeouts ≡ wrapping_add c.stats.frame_timeouts
  pub skips : served.bank.core.stats.busy_skips ≡ wrapping_add c.stats.busy_skips
  pub same_replies : served.bank.replies ≡ replies
  pub same_buffers : served.buffers ≡ buffers

module _ (n now : ℕ) (taken present : List Bool) (masks samples : List ℕ) (replies : List LaneReply) (buffers : Buffers) (c : Core) where
  abbrev served : Served
  served = service_core n now taken present masks samples replies buffers c

  abbrev expired : Bool
  expired = demand_expired now c.demand

  module _ (f : c.frame.faulted ≡ false) (b : c.frame.busy ≡ true) where
    -- it is skipped or latched, and nothing is sent
    in-flight : (k : Skipped) → k ≡ service_busy n now expired (leased_core n now c) → served ≡ unsent n now taken present masks samples replies buffers k
    unfolding service_core clear_request_sent
    in-flight k e =
        sym (off _ _ f (on _ _ (ap (λ (q : Frame). q.busy) (leased-frame n now c) ∙ b) refl))
        ∙ ap (unsent n now taken present masks samples replies buffers) (sym e)

    -- when it started decides whether it is late
    late : (t : Bool) → lease_expired c.frame.started_ms 1 now ≡ t → lease_expired (leased_core n now c).frame.started_ms 1 now ≡ t
    late t e = ap (λ (q : Frame). lease_expired q.started_ms 1 now) (leased-frame n now c) ∙ e

    -- For up to a millisecond a service leaves it as it is, and counts a busy skip. Document 01: "timeout when more than 1 ms, wrapping 64-bit".
    pub service-skips : elapsed 64 c.frame.started_ms now ≤ 1 → Skips expired c replies buffers served
    unfolding service_busy
    service-skips h =
        let c₁ = leased_core n now c in
        let k = skipped (pick expired lease_expired_event busy) [] (count_busy_skip c₁) in
        let in-time = late false ((lease-within c.frame.started_ms 1 now).1 h) in
        subst (Skips expired c replies buffers)
        (sym (in-flight k (off _ _ in-time (sym (under (λ (e : ServiceEvent). skipped e [] (count_busy_skip c₁)) expired lease_expired_event busy)))))
        (record {
          event = refl;
          orders = refl;
          frame = leased-frame n now c;
          run = leased-run n now c;
          request = ap (λ (t : Telemetry). t.request) (leased-telemetry n now c);
          skips = ap wrapping_add (leased-counts (λ (t : Stats). t.busy_skips) n now c (λ m. refl));
          same_replies = refl;
          same_buffers = refl;
        })

    -- after that the bank latches a fault
    pub service-times-out : 1 < elapsed 64 c.frame.started_ms now → TimesOut n c replies buffers served
    unfolding service_busy latch_fault command_stop
    service-times-out h =
        let c₁ = leased_core n now c in
        let k = skipped faulted (latch_orders n) (latch_fault n false (count_timeout (count_busy_skip c₁))) in
        subst (TimesOut n c replies buffers)
        (sym (in-flight k (on _ _ (late true ((lease-above c.frame.started_ms 1 now).1 h)) refl)))
        (record {
          event = refl;
          orders = refl;
          latched = latch-clears n false (count_timeout (count_busy_skip c₁));
          faults =
              fault-counted n false (count_timeout (count_busy_skip c₁)) (ap (λ (q : Frame). q.faulted) (leased-frame n now c) ∙ f)
              ∙ ap wrapping_add (leased-counts (λ (t : Stats). t.dma_faults) n now c (λ m. refl));
          timeouts = ap wrapping_add (leased-counts (λ (t : Stats). t.frame_timeouts) n now c (λ m. refl));
          skips = ap wrapping_add (leased-counts (λ (t : Stats). t.busy_skips) n now c (λ m. refl));
          same_replies = refl;
          same_buffers = refl;
        })
