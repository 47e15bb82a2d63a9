-- One call of service: the lease, the frame in flight, the replies that wait, and the next frame set.
-- Stands for `service` of crates/ferrowasp-stm32-critical/src/dshot_bank.rs (Eirik2020/ferro-wasp, commit 9cb8aca1a6, Copyright (c) 2026 Kaldstrand,
-- Apache-2.0), changed: rewritten as definitions, over n lanes. The hardware's answers are parameters.
-- Assumes nothing.
use Rattle.std.specs.Prelude.{ℕ, Bool, true, false, not, List, [], if◌then◌else◌}
use Rattle.std.proofs.Math.Option.{Option, none, some}
use Rattle.dshot_spec.specs.Lease.{lease_expired}
use Rattle.dshot_bank_spec.specs.State.{Demand, Core, LaneReply, Bank, Buffers}
use Rattle.dshot_bank_spec.specs.With.{with_busy_skips, with_lease_expiries, with_frame_timeouts, with_replies_waiting, with_replies_held, with_frame, with_stats}
use Rattle.dshot_bank_spec.specs.Order.{Order, latch_orders}
use Rattle.dshot_bank_spec.specs.Commands.{command_stop, clear_request_sent}
use Rattle.dshot_bank_spec.specs.Replies.{wrapping_add, decode_replies}
use Rattle.dshot_bank_spec.specs.Send.{latch_fault, send_requested, sent_buffers}

-- the Rust's `DshotServiceEvent`
pub data ServiceEvent : Type 0 where
  frame_started_event : ServiceEvent
  busy : ServiceEvent
  lease_expired_event : ServiceEvent
  faulted : ServiceEvent

-- ---- the lease

abbrev pub is_some_and_expired : ℕ → ℕ → Option ℕ → Bool
is_some_and_expired started now none = false
is_some_and_expired started now (some duration) = lease_expired started duration now

-- the Rust's `lease_expired`
unfoldable pub demand_expired : ℕ → Demand → Bool
demand_expired now d = is_some_and_expired d.lease_started_ms now d.lease_duration_ms

-- the Rust's `if lease_expired { .. }`
unfoldable pub expire_lease : ℕ → Bool → Core → Core
expire_lease n expired c =
    if expired then with_stats (with_lease_expiries (wrapping_add c.stats.lease_expiries) c.stats) (command_stop n c) else c

-- ---- a frame in flight

abbrev pub count_busy_skip : Core → Core
count_busy_skip c = with_stats (with_busy_skips (wrapping_add c.stats.busy_skips) c.stats) c

abbrev pub count_timeout : Core → Core
count_timeout c = with_stats (with_frame_timeouts (wrapping_add c.stats.frame_timeouts) c.stats) c

-- what a service answers, orders and leaves if it sends no frame
pub record Skipped : Type 0 where
  pub event : ServiceEvent
  pub orders : List Order
  pub core : Core

abbrev pub skipped : ServiceEvent → List Order → Core → Skipped
skipped e o c = record { event = e; orders = o; core = c }

-- the Rust's `if self.busy { .. }`; a frame times out if it is more than 1 ms old
unfoldable pub service_busy : ℕ → ℕ → Bool → Core → Skipped
service_busy n now expired c =
    if lease_expired c.frame.started_ms 1 now then skipped faulted (latch_orders n) (latch_fault n false (count_timeout (count_busy_skip c))) else
    if expired then skipped lease_expired_event [] (count_busy_skip c) else
    skipped busy [] (count_busy_skip c)

-- ---- the replies

-- the Rust's `if self.replies_waiting { .. }`, without the decoding
unfoldable pub replies_read : Core → Core
replies_read c =
    if c.frame.replies_waiting then with_frame (with_replies_held true (with_replies_waiting false c.frame)) c else c

-- the decoding
unfoldable pub read_replies : ℕ → Bool → List Bool → List ℕ → List ℕ → List LaneReply → List LaneReply
read_replies n waiting present masks samples old = if waiting then decode_replies n present masks samples old else old

-- ---- service

-- what a call of service answers, orders and leaves
pub record Served : Type 0 where
  pub event : ServiceEvent
  pub orders : List Order
  pub bank : Bank
  pub buffers : Buffers

abbrev pub sent_event : Bool → Bool → ServiceEvent
sent_event started expired =
    if not started then faulted else
    if expired then lease_expired_event else
    frame_started_event

module _ (n now : ℕ) (taken present : List Bool) (masks samples : List ℕ) (replies : List LaneReply) (buffers : Buffers) where
  -- If nothing is sent, replies and buffers stay.
  abbrev pub unsent : Skipped → Served
  unsent s = record { event = s.event; orders = s.orders; bank = record { core = s.core; replies = replies }; buffers = buffers }

  -- a frame set is sent
  abbrev pub sending : Bool → Core → List LaneReply → Served
  sending expired c decoded =
      let sent = send_requested n now taken c in
      record { event = sent_event sent.started expired; orders = sent.orders; bank = record { core = sent.core; replies = decoded }; buffers = sent_buffers n c buffers }

  -- the steps of `service` in the source's order
  unfoldable pub service_core : Core → Served
  service_core c =
      let c₀ = clear_request_sent c in
      if c₀.frame.faulted then unsent (skipped faulted [] c₀) else
      let expired = demand_expired now c₀.demand in
      let c₁ = expire_lease n expired c₀ in
      if c₁.frame.busy then unsent (service_busy n now expired c₁) else
      sending expired (replies_read c₁) (read_replies n c₁.frame.replies_waiting present masks samples replies)

-- The parameters are the hardware's answers. `taken`: whether each lane took its buffer. `present`: whether it has a capture. `masks` and `samples`:
-- the captures.
abbrev pub service : ℕ → ℕ → List Bool → List Bool → List ℕ → List ℕ → Bank → Buffers → Served
service n now taken present masks samples b buffers = service_core n now taken present masks samples b.replies buffers b.core
