-- A demand lasts as long as its lease. Until the lease expires, a service sends what is requested. Each expiry is counted.
-- Assumes nothing.
use mathlib.Core.Path.{◌≡◌, ◌∙◌, refl, sym, ap, subst}
use mathlib.Core.Logic.{◌↔◌}
use Prim.Native.Nat.{ℕ, ◌<◌}
use mathlib.Core.Bool.{Bool, true, false, not}
use mathlib.Core.List.{List}
use mathlib.Core.Option.{none, some}
use lib.Dec.{ltb}
use Rattle.dshot_reply_spec.specs.Answer.{pick}
use Rattle.dshot_spec.specs.Lease.{elapsed, lease_expired}
use Rattle.dshot_spec.proofs.LeaseLaws.{lease-above}
use Rattle.dshot_bank_spec.specs.Lanes.{position}
use Rattle.dshot_bank_spec.specs.State.{Demand, Core, LaneReply, Buffers}
use Rattle.dshot_bank_spec.specs.Commands.{command_stop, clear_request_sent}
use Rattle.dshot_bank_spec.specs.Replies.{wrapping_add}
use Rattle.dshot_bank_spec.specs.Send.{Sent, latch_fault, exchange_refused, frame_started, exchange_buffers, send_requested}
use Rattle.dshot_bank_spec.specs.Service.{Served, Skipped, unsent, is_some_and_expired, demand_expired, expire_lease, service_busy, replies_read, service_core}
use Rattle.dshot_bank_spec.specs.SentClaim.{sending_core}
use Rattle.dshot_bank_spec.proofs.LaneLaws.{off, either, under}
use Rattle.dshot_bank_spec.proofs.LeaseEnds.{read_keeps}
use Rattle.dshot_bank_spec.proofs.Service.{leased_core, service_send}

-- ---- when a demand has expired: `lease_expired` in `service`

module _ (now : ℕ) (d : Demand) where
  -- without a lease it never does
  pub unleased-holds : d.lease_duration_ms ≡ none → demand_expired now d ≡ false
  unfolding demand_expired
  unleased-holds e = ap (is_some_and_expired d.lease_started_ms now) e

  -- with one it does exactly if more than the lease has passed since its start
  pub leased-expires : (k : ℕ) → d.lease_duration_ms ≡ some k → (demand_expired now d ≡ true) ↔ (k < elapsed 64 d.lease_started_ms now)
  unfolding demand_expired
  leased-expires k e =
      let is = ap (is_some_and_expired d.lease_started_ms now) e in
      let law = lease-above d.lease_started_ms k now in
      (λ h. law.0 (sym is ∙ h), λ h. is ∙ law.1 h)

module _ (n now : ℕ) (c : Core) where
  -- a service that finds it in time comes to send with it as it was: the other half of `lease-ends`
  pub lease-holds : demand_expired now c.demand ≡ false → (sending_core n now c).demand ≡ c.demand
  unfolding expire_lease clear_request_sent
  lease-holds e =
      read_keeps (λ (x : Core). x.demand) (λ f x. refl) (leased_core n now c)
      ∙ ap (λ (b : Bool). (expire_lease n b (clear_request_sent c)).demand) e

-- ---- the count of expiries: document 01, "An expired lease is counted even if the answer is Faulted"

-- when the lease is looked at
leased-count : (n now : ℕ) (c : Core)
    → (leased_core n now c).stats.lease_expiries ≡ pick (demand_expired now c.demand) (wrapping_add c.stats.lease_expiries) c.stats.lease_expiries
unfolding expire_lease command_stop clear_request_sent
leased-count n now c = sym (under (λ (x : Core). x.stats.lease_expiries) (demand_expired now c.demand) _ _)

-- a frame in flight
busy-count : (n now : ℕ) (expired : Bool) (c : Core) → (service_busy n now expired c).core.stats.lease_expiries ≡ c.stats.lease_expiries
unfolding service_busy latch_fault command_stop
busy-count n now expired c =
    let kept : Skipped → Type 0 = λ k. k.core.stats.lease_expiries ≡ c.stats.lease_expiries in
    either kept (lease_expired c.frame.started_ms 1 now) refl (either kept expired refl refl)

-- a frame that is sent
send-count : (n now : ℕ) (taken : List Bool) (c : Core) → (send_requested n now taken c).core.stats.lease_expiries ≡ c.stats.lease_expiries
unfolding send_requested exchange_buffers exchange_refused latch_fault command_stop frame_started
send-count n now taken c = either (λ (s : Sent). s.core.stats.lease_expiries ≡ c.stats.lease_expiries) (ltb (position not taken) n) refl refl

module _ (n now : ℕ) (taken present : List Bool) (masks samples : List ℕ) (replies : List LaneReply) (buffers : Buffers) (c : Core) where
  -- a service that finds no fault counts an expiry, whatever it answers
  pub expiry-counted : c.frame.faulted ≡ false
      → (service_core n now taken present masks samples replies buffers c).bank.core.stats.lease_expiries
      ≡ pick (demand_expired now c.demand) (wrapping_add c.stats.lease_expiries) c.stats.lease_expiries
  unfolding service_core clear_request_sent
  expiry-counted f =
      let c₁ = leased_core n now c in
      let expired = demand_expired now c.demand in
      let kept : Served → Type 0 = λ z. z.bank.core.stats.lease_expiries ≡ c₁.stats.lease_expiries in
      let both = either kept c₁.frame.busy {x = unsent n now taken present masks samples replies buffers (service_busy n now expired c₁)}
      {y = service_send n now taken present masks samples replies buffers expired c₁} (busy-count n now expired c₁)
      (send-count n now taken (replies_read c₁) ∙ read_keeps (λ (x : Core). x.stats.lease_expiries) (λ q x. refl) c₁) in
      subst kept (off _ _ f refl) both ∙ leased-count n now c
