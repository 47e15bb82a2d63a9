-- What a service leaves when it begins to send: if every lane takes its buffer, and if one refuses it. For every number of lanes and every state.
-- Assumes nothing.
use mathlib.Core.Path.{◌≡◌, ◌∙◌, refl, sym, ap, subst}
use Prim.Native.Nat.{ℕ, ◌<◌, ◌≤◌}
use mathlib.Core.Bool.{Bool, true, false, not}
use mathlib.Core.List.{List}
use borrow.Author.Tests.{lt-ltb, le-ltb}
use lib.ListN.{get_or}
use Rattle.dshot_reply_spec.specs.Answer.{pick}
use Rattle.dshot_spec.proofs.Tabulated.{get_d_tabulate}
use Rattle.dshot_bank_spec.specs.Lanes.{position}
use Rattle.dshot_bank_spec.specs.State.{Frame, Stats, Core, LaneReply, Buffers}
use Rattle.dshot_bank_spec.specs.With.{with_lease_expiries, with_command_sequence}
use Rattle.dshot_bank_spec.specs.Order.{start_orders, refused_orders}
use Rattle.dshot_bank_spec.specs.Commands.{command_stop, clear_request_sent, next_command_frame}
use Rattle.dshot_bank_spec.specs.FrameSet.{next_set, packets_sent, first_duties}
use Rattle.dshot_bank_spec.specs.Replies.{wrapping_add}
use Rattle.dshot_bank_spec.specs.Send.{turn_marks, Sent, latch_fault, exchange_refused, frame_started, exchange_buffers, send_requested, sent_buffers}
use Rattle.dshot_bank_spec.specs.Service.{frame_started_event, lease_expired_event, faulted, Served, sent_event, demand_expired, replies_read, service_core}
use Rattle.dshot_bank_spec.specs.SentClaim.{sending_core}
use Rattle.dshot_bank_spec.proofs.LaneLaws.{on, off, either}
use Rattle.dshot_bank_spec.proofs.FaultLaws.{Latched, latch-clears}
use Rattle.dshot_bank_spec.proofs.LeaseEnds.{read_keeps}
use Rattle.dshot_bank_spec.proofs.Service.{leased_core, leased-frame, service_send, service-sends}
use Rattle.dshot_bank_spec.proofs.ServiceLaws.{leased-counts}

-- the counts when a service begins to send, except that of expiries
sending-counts : (g : Stats → ℕ) (n now : ℕ) (c : Core) → ((k : ℕ) → g (with_lease_expiries k c.stats) ≡ g c.stats)
    → g (sending_core n now c).stats ≡ g c.stats
sending-counts g n now c h = read_keeps (λ (x : Core). g x.stats) (λ f x. refl) (leased_core n now c) ∙ leased-counts g n now c h

-- ---- a frame set that is sent: `send_requested`

module _ (n now : ℕ) (taken : List Bool) (c : Core) where
  -- what it sends is settled before the first exchange, and so is what is left of a run
  abbrev started_core : Core
  started_core = frame_started n now (next_set n c).telemetry_request (with_command_sequence (next_command_frame c).left c)

  -- every lane takes its buffer
  pub send-starts : n ≤ position not taken
      → send_requested n now taken c ≡ record { started = true; orders = start_orders n (first_duties n c.timing (packets_sent n c)); core = started_core }
  unfolding send_requested exchange_buffers
  send-starts h = sym (off _ _ (le-ltb (position not taken) n h) refl)

  -- a lane refuses it
  pub send-refused : position not taken < n
      → send_requested n now taken c ≡ exchange_refused n (position not taken) (with_command_sequence (next_command_frame c).left c)
  unfolding send_requested exchange_buffers
  send-refused h = sym (on _ _ (lt-ltb (position not taken) n h) refl)

-- a refused exchange latches
refused-latches : (n k : ℕ) (c : Core) → Latched (exchange_refused n k c).core
unfolding exchange_refused
refused-latches n k c = latch-clears n false _

-- ---- a service that comes to send: `service`

pub record Starts (now : ℕ) (expired : Bool) (c : Core) (served : Served) : Type 0 where
  pub event : served.event ≡ pick expired lease_expired_event frame_started_event
  pub started_ms : served.bank.core.frame.started_ms ≡ now
  pub busy : served.bank.core.frame.busy ≡ true
  pub mask : served.bank.core.frame.completion_mask ≡ 0
  pub counted : served.bank.core.stats.frames_started ≡ wrapping_add c.stats.frames_started

-- document 01: "a refused exchange leaves new spares and a latched fault"; the lanes before the one that refuses have turned
pub record Refuses (n now lane : ℕ) (c : Core) (buffers : Buffers) (served : Served) : Type 0 where
  pub event : served.event ≡ faulted
  pub orders : served.orders ≡ refused_orders n lane
  pub latched : Latched served.bank.core
  pub uncounted : served.bank.core.stats.frames_started ≡ c.stats.frames_started
  pub spares : served.buffers ≡ sent_buffers n (sending_core n now c) buffers
  pub turned : (i : ℕ) → i < n → i < lane → get_or served.bank.core.frame.in_second i false ≡ not (get_or c.frame.in_second i false)
  pub unturned : (i : ℕ) → i < n → lane ≤ i → get_or served.bank.core.frame.in_second i false ≡ get_or c.frame.in_second i false

-- the marks with which a service comes to send are the bank's
sending-marks : (n now : ℕ) (c : Core) → (sending_core n now c).frame.in_second ≡ c.frame.in_second
unfolding replies_read
sending-marks n now c =
    let c₁ = leased_core n now c in
    either (λ (x : Core). x.frame.in_second ≡ c₁.frame.in_second) c₁.frame.replies_waiting refl refl
    ∙ ap (λ (q : Frame). q.in_second) (leased-frame n now c)

-- a mark after the first lanes have turned
mark-turned : (n k i : ℕ) (marks : List Bool) → i < n → i < k → get_or (turn_marks n k marks) i false ≡ not (get_or marks i false)
mark-turned n k i marks l h = get_d_tabulate _ n i false l ∙ sym (on _ _ (lt-ltb i k h) refl)

mark-unturned : (n k i : ℕ) (marks : List Bool) → i < n → k ≤ i → get_or (turn_marks n k marks) i false ≡ get_or marks i false
mark-unturned n k i marks l h = get_d_tabulate _ n i false l ∙ sym (off _ _ (le-ltb i k h) refl)

module _ (n now : ℕ) (taken present : List Bool) (masks samples : List ℕ) (replies : List LaneReply) (buffers : Buffers) (c : Core)
    (f : c.frame.faulted ≡ false) (idle : c.frame.busy ≡ false) where
  abbrev served : Served
  served = service_core n now taken present masks samples replies buffers c

  abbrev sent : Sent
  sent = send_requested n now taken (sending_core n now c)

  sends : service_send n now taken present masks samples replies buffers (demand_expired now (clear_request_sent c).demand) (leased_core n now c) ≡ served
  sends = service-sends n now taken present masks samples replies buffers c f idle

  -- its core is the one that sending leaves
  pub served-core : {A : Type 0} (g : Core → A) {x : Sent} → sent ≡ x → g served.bank.core ≡ g x.core
  served-core g t = sym (ap (λ (z : Served). g z.bank.core) sends) ∙ ap (λ (y : Sent). g y.core) t

  served-event : {x : Sent} → sent ≡ x → served.event ≡ sent_event x.started (demand_expired now c.demand)
  unfolding clear_request_sent
  served-event t = sym (ap (λ (z : Served). z.event) sends) ∙ ap (λ (y : Sent). sent_event y.started (demand_expired now c.demand)) t

  -- if a frame starts, it is counted, and in flight from this clock on
  pub service-starts : n ≤ position not taken → Starts now (demand_expired now c.demand) c served
  unfolding frame_started
  service-starts h =
      let t = send-starts n now taken (sending_core n now c) h in
      record {
        event = served-event t;
        started_ms = served-core (λ (x : Core). x.frame.started_ms) t;
        busy = served-core (λ (x : Core). x.frame.busy) t;
        mask = served-core (λ (x : Core). x.frame.completion_mask) t;
        counted =
            served-core (λ (x : Core). x.stats.frames_started) t
            ∙ ap wrapping_add (sending-counts (λ (k : Stats). k.frames_started) n now c (λ m. refl));
      }

  -- if a lane refuses its buffer, the bank latches a fault, and no frame is counted
  pub service-refuses : position not taken < n → Refuses n now (position not taken) c buffers served
  unfolding exchange_refused latch_fault command_stop
  service-refuses h =
      let k = position not taken in
      let c₂ = sending_core n now c in
      let t = send-refused n now taken c₂ h in
      let marks = served-core (λ (x : Core). x.frame.in_second) t ∙ ap (turn_marks n k) (sending-marks n now c) in
      record {
        event = served-event t;
        orders = sym (ap (λ (z : Served). z.orders) sends) ∙ ap (λ (x : Sent). x.orders) t;
        latched = subst Latched (sym (served-core (λ (x : Core). x) t)) (refused-latches n k (with_command_sequence (next_command_frame c₂).left c₂));
        uncounted =
            served-core (λ (x : Core). x.stats.frames_started) t ∙ sending-counts (λ (q : Stats). q.frames_started) n now c (λ m. refl);
        spares = sym (ap (λ (z : Served). z.buffers) sends);
        turned = λ i l b. ap (λ (m : List Bool). get_or m i false) marks ∙ mark-turned n k i c.frame.in_second l b;
        unturned = λ i l b. ap (λ (m : List Bool). get_or m i false) marks ∙ mark-unturned n k i c.frame.in_second l b;
      }
