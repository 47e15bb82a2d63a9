-- A service orders a frame to start. Then the view of each lane shows a sequence that reads back as what was to be sent.
-- Assumes nothing.
use mathlib.Core.Path.{◌≡◌, ◌∙◌, refl, sym, ap, subst, subst₂}
use Prim.Native.Nat.{ℕ, zero, suc, ◌+◌, ◌*◌, ◌%◌, ◌<◌}
use mathlib.Core.List.{List, [], ◌∷◌, ◌++◌}
use mathlib.Core.Bool.{Bool, true, false, not, false≢true}
use mathlib.Core.Option.{Option, none, some, none-ne-some, some-injective}
use native.Mathlib.Nat.{mod-mod}
use native.Mathlib.Omega.{arith}
use borrow.Author.Tests.{lt-ltb, eq-eqb, eqb-true}
use lib.Dec.{eqb, ltb}
use lib.ListN.{length, get_or}
use Rattle.dshot_reply_spec.proofs.Choice.{not_first, not-second}
use Rattle.dshot_reply_spec.specs.Answer.{pick, given}
use Rattle.dshot_spec.proofs.SequenceReads.{sequence-reads, sequence-slots}
use Rattle.dshot_spec.proofs.Tabulated.{get_d_tabulate}
use Rattle.dshot_spec.specs.Lease.{lease_expired}
use Rattle.dshot_spec.specs.Packet.{Kind, packet_word, motor_packets, asks}
use Rattle.dshot_spec.specs.Sequence.{Sequence, sequence_of, read_sequence}
use Rattle.dshot_spec.specs.Tabulate.{tabulate}
use Rattle.dshot_spec.specs.Timing.{Timing}
use Rattle.dshot_bank_spec.specs.Lanes.{position}
use Rattle.dshot_bank_spec.specs.State.{Frame, Core, LaneReply, Buffers}
use Rattle.dshot_bank_spec.specs.With.{with_command_sequence}
use Rattle.dshot_bank_spec.specs.Order.{Order, exchange_buffer, start_dma, start_frame, stop_frame, force_outputs_low, pause_and_clear, begin_receive, end_receive, latch_orders, start_orders}
use Rattle.dshot_bank_spec.specs.Commands.{clear_request_sent, next_command_frame}
use Rattle.dshot_bank_spec.specs.FrameSet.{next_set, kind_sent, packets_sent, first_duties, encode_lanes}
use Rattle.dshot_bank_spec.specs.Send.{turn_marks, Sent, exchange_refused, frame_started, exchange_buffers, send_requested, sent_buffers}
use Rattle.dshot_bank_spec.specs.Service.{Served, Skipped, skipped, unsent, faulted, service_busy, demand_expired, replies_read, read_replies, service_core}
use Rattle.dshot_bank_spec.specs.Calls.{service_call, sending, serviced, slots, State, Stepped, told, sequence_sent}
use Rattle.dshot_bank_spec.specs.Steps.{buffers_fit, length_refusal, lane_refusal, port_refusal, refuse_or, step}
use Rattle.dshot_bank_spec.specs.Lists.{is_refused}
use Rattle.dshot_bank_spec.specs.SentClaim.{sending_core, ReadsBack, SentReadsBack}
use Rattle.dshot_bank_spec.proofs.LaneLaws.{on, off, either, under}
use Rattle.dshot_bank_spec.proofs.Refusals.{accepted-acts, accepted-port}
use Rattle.dshot_bank_spec.proofs.Service.{leased_core, leased-frame, leased-keeps, service_send, service_open, service-sends}
use Rattle.dshot_bank_spec.proofs.Written.{lane_slots, spare, written}

-- ---- the packet and the sequence of a lane

-- a packet has the lowest eleven bits of its value
packet-cut : (k : Kind) (v : ℕ) (b : Bool) → packet_word k (v % 2048) b ≡ packet_word k v b
unfolding packet_word
packet-cut k v b = rw (mod-mod v 2048)

-- what a lane is to send
abbrev sequence_at : ℕ → Core → ℕ → Sequence
sequence_at n c lane = sequence_of c.timing (get_or (packets_sent n c) lane 0)

packet-lane : (n lane : ℕ) (c : Core) → lane < n
    → get_or (packets_sent n c) lane 0 ≡ packet_word (kind_sent c) (get_or (next_set n c).values lane 0) (asks (next_set n c).telemetry_lane lane)
unfolding motor_packets
packet-lane n lane c h = get_d_tabulate _ n lane 0 h

-- the lane's duty and slots read back
lane-reads : (n lane : ℕ) (c : Core) → (c.timing.zero_high ≡ c.timing.one_high → ⊥) → lane < n
    → read_sequence c.timing (record { first = get_or (first_duties n c.timing (packets_sent n c)) lane 0; slots = (sequence_at n c lane).slots })
    ≡ given (record { value = get_or (next_set n c).values lane 0 % 2048; telemetry = asks (next_set n c).telemetry_lane lane; kind = kind_sent c })
lane-reads n lane c ne l =
    let t = c.timing in
    let v = get_or (next_set n c).values lane 0 in
    let a = asks (next_set n c).telemetry_lane lane in
    ap (λ (d : ℕ). read_sequence t (record { first = d; slots = (sequence_at n c lane).slots })) (get_d_tabulate _ n lane 0 l)
    ∙ ap (λ (w : ℕ). read_sequence t (sequence_of t w)) (packet-lane n lane c l ∙ sym (packet-cut (kind_sent c) v a))
    ∙ sequence-reads t (kind_sent c) (v % 2048) a (omega arith) ne

-- ---- what is seen after a frame set was sent

-- the marks have turned, so what was spare is sent
turned : (n lane : ℕ) (marks : List Bool) → lane < n → get_or (turn_marks n n marks) lane false ≡ not (get_or marks lane false)
turned n lane marks h = get_d_tabulate _ n lane false h ∙ sym (on _ _ (lt-ltb lane n h) refl)

seen-spare : (m : Bool) (b : Buffers) → pick (not m) b.second b.first ≡ spare m b
seen-spare true b = refl
seen-spare false b = refl

fits : (n : ℕ) (b : Buffers) → ((x : Bool) → length (spare x b) ≡ 16 * n) → true ≡ buffers_fit n b
fits n b h = on _ _ (eq-eqb (length b.first) (16 * n) (h true)) (sym (eq-eqb (length b.second) (16 * n) (h false)))

fitted : (n : ℕ) (b : Buffers) → buffers_fit n b ≡ true → (x : Bool) → length (spare x b) ≡ 16 * n
fitted n b e true = eqb-true _ _ (not-second (eqb (length b.first) (16 * n)) e false≢true).0
fitted n b e false = eqb-true _ _ (not-second (eqb (length b.first) (16 * n)) e false≢true).1

-- a view of a lane that there is, of buffers that fit, is not refused
seen-answer : (n lane : ℕ) (s : State) → lane < n → true ≡ buffers_fit n s.buffers
    → slots (sequence_sent s.bank.core s.buffers lane) ≡ (step n s (sending lane)).answer
unfolding step port_refusal
seen-answer n lane s h f =
    let e : 0 ≡ length_refusal (buffers_fit n s.buffers) (lane_refusal n lane) = on _ _ (sym f) (on _ _ (lt-ltb lane n h) refl) in
    ap (λ (k : ℕ). (refuse_or s k (told s (slots (sequence_sent s.bank.core s.buffers lane)))).answer) e

module _ (n now : ℕ) (c : Core) (b : Buffers) (replies : List LaneReply) where
  -- what a frame set that starts leaves
  abbrev sent_state : State
  sent_state = record {
    bank = record {
      core = frame_started n now (next_set n c).telemetry_request (with_command_sequence (next_command_frame c).left c);
      replies = replies;
    };
    buffers = sent_buffers n c b;
  }

  lane-seen : ((x : Bool) → length (spare x b) ≡ 16 * n) → (lane : ℕ) → lane < n
      → (step n sent_state (sending lane)).answer ≡ slots (sequence_at n c lane).slots
  unfolding frame_started encode_lanes
  lane-seen h lane l =
      let marks = c.frame.in_second in
      let bs = sent_state.buffers in
      let w = written n (λ i. get_or marks i false) (λ i. (sequence_at n c i).slots) (λ i. sequence-slots _ _) b h n (omega arith) in
      sym (seen-answer n lane sent_state l (fits n bs w.long))
      ∙ ap slots (ap (λ (x : Bool). lane_slots lane (pick x bs.second bs.first)) (turned n lane marks l)
      ∙ ap (lane_slots lane) (seen-spare (get_or marks lane false) bs)
      ∙ w.holds lane l)

-- ---- a service that orders a frame to start has sent one

-- the duties of an order that starts a frame
abbrev duties_of : Order → Option (List ℕ)
duties_of (exchange_buffer motor) = none
duties_of (start_dma motor) = none
duties_of (start_frame duties) = some duties
duties_of stop_frame = none
duties_of force_outputs_low = none
duties_of (pause_and_clear motor) = none
duties_of begin_receive = none
duties_of end_receive = none

-- the duties of the last order, if it starts a frame; o if there is no order
abbrev last_duties : Option (List ℕ) → List Order → Option (List ℕ)
last_duties o [] = o
last_duties o (x ∷ xs) = last_duties (duties_of x) xs

last-append : (o : Option (List ℕ)) (xs ys : List Order) → last_duties o (xs ++ ys) ≡ last_duties (last_duties o xs) ys
last-append o [] ys = refl
last-append o (x ∷ xs) ys = last-append (duties_of x) xs ys

-- a loop of other orders over the lanes
last-tabulate : (f : ℕ → Order) → ((i : ℕ) → duties_of (f i) ≡ none) → (n : ℕ) → last_duties none (tabulate n f) ≡ none
unfolding tabulate
last-tabulate f h zero = refl
last-tabulate f h (suc n) = last-append none (tabulate n f) (f n ∷ []) ∙ h n

last-latch : (n : ℕ) → last_duties none (latch_orders n) ≡ none
last-latch n = last-tabulate pause_and_clear (λ i. refl) n

last-start : (n : ℕ) (duties : List ℕ) → last_duties none (start_orders n duties) ≡ some duties
last-start n duties =
    last-append none (tabulate n exchange_buffer) (tabulate n start_dma ++ (start_frame duties ∷ []))
    ∙ last-append (last_duties none (tabulate n exchange_buffer)) (tabulate n start_dma) (start_frame duties ∷ [])

-- a frame in flight
busy-last : (n now : ℕ) (expired : Bool) (c : Core) → last_duties none (service_busy n now expired c).orders ≡ none
unfolding service_busy
busy-last n now expired c =
    let P : Skipped → Type 0 = λ k. last_duties none k.orders ≡ none in
    either P (lease_expired c.frame.started_ms 1 now) (last-latch n) (either P expired refl refl)

-- a lane refuses its buffer
refused-last : (n k : ℕ) (c : Core) → last_duties none (exchange_refused n k c).orders ≡ none
unfolding exchange_refused
refused-last n k c = last-append none (tabulate (k + 1) exchange_buffer) (latch_orders n) ∙ last-latch n

-- if a test picks orders that end in a start, and its first orders do not, it has failed
second-starts : {A : Type 0} {duties : List ℕ} (g : A → List Order) (t : Bool) (x y : A) → last_duties none (g (pick t x y)) ≡ some duties
    → last_duties none (g x) ≡ none → (t ≡ false) × (last_duties none (g y) ≡ some duties)
second-starts {A} {duties} g t x y h e =
    not_first t (under (λ (z : A). last_duties none (g z)) t x y ∙ h) (λ q. none-ne-some duties (sym e ∙ q))

-- every lane took its buffer
exchange-tests : {duties : List ℕ} (n now : ℕ) (taken : List Bool) (request : Option ℕ) (first : List ℕ) (c : Core)
    → last_duties none (exchange_buffers n now taken request first c).orders ≡ some duties
    → (ltb (position not taken) n ≡ false) × (first ≡ duties)
unfolding exchange_buffers
exchange-tests {duties} n now taken request first c h =
    let k = position not taken in
    let p = second-starts (λ (t : Sent). t.orders) (ltb k n) (exchange_refused n k c)
    (record { started = true; orders = start_orders n first; core = frame_started n now request c }) h (refused-last n k c) in
    (p.0, some-injective first duties (sym (last-start n first) ∙ p.1))

module _ (n now : ℕ) (taken present : List Bool) (masks samples : List ℕ) (replies : List LaneReply) (b : Buffers) (c : Core) where
  -- no fault, no frame in flight, and every lane took its buffer
  sent-tests : {duties : List ℕ} → last_duties none (service_core n now taken present masks samples replies b c).orders ≡ some duties
      → (c.frame.faulted ≡ false) × (c.frame.busy ≡ false) × (ltb (position not taken) n ≡ false)
      × (first_duties n (sending_core n now c).timing (packets_sent n (sending_core n now c)) ≡ duties)
  unfolding service_core clear_request_sent send_requested
  sent-tests h =
      let c₀ = clear_request_sent c in
      let c₁ = leased_core n now c in
      let expired = demand_expired now c₀.demand in
      let idle = unsent n now taken present masks samples replies b in
      let p = second-starts (λ (z : Served). z.orders) c.frame.faulted (idle (skipped faulted [] c₀))
      (service_open n now taken present masks samples replies b expired c₁) h refl in
      let q = second-starts (λ (z : Served). z.orders) c₁.frame.busy (idle (service_busy n now expired c₁))
      (service_send n now taken present masks samples replies b expired c₁) p.1 (busy-last n now expired c₁) in
      let r = exchange-tests n now taken _ _ _ q.1 in
      (p.0, sym (ap (λ (f : Frame). f.busy) (leased-frame n now c)) ∙ q.0, r.0, r.1)

  -- what is decoded before it is sent
  abbrev decoded : List LaneReply
  decoded = read_replies n (leased_core n now c).frame.replies_waiting present masks samples replies

  sent-state : c.frame.faulted ≡ false → c.frame.busy ≡ false → ltb (position not taken) n ≡ false
      → sent_state n now (sending_core n now c) b decoded ≡ record { bank = (service_core n now taken present masks samples replies b c).bank; buffers = (service_core n now taken present masks samples replies b c).buffers }
  unfolding send_requested exchange_buffers
  sent-state f i k =
      let sent = sent_buffers n (sending_core n now c) b in
      ap (λ (t : Sent). record { bank = record { core = t.core; replies = decoded }; buffers = sent }) (off _ _ k refl)
      ∙ ap (λ (z : Served). record { bank = z.bank; buffers = z.buffers }) (service-sends n now taken present masks samples replies b c f i)

-- ---- the claim

-- a service that is not refused finds buffers that fit
service-fits : (n : ℕ) (s : State) (now : ℕ) (taken present : List Bool) (masks samples : List ℕ)
    → is_refused (step n s (service_call now taken present masks samples)).answer ≡ false → buffers_fit n s.buffers ≡ true
unfolding port_refusal
service-fits n s now taken present masks samples h =
    let fit = buffers_fit n s.buffers in
    let all = pick fit (eqb (length samples) (160 * n)) false in
    let p = not-second all (accepted-port n s (service_call now taken present masks samples) h) (λ e. omega arith) in
    (not-second fit p.0 false≢true).0

-- the timing is the bank's
sending-timing : (n now : ℕ) (c : Core) → (sending_core n now c).timing ≡ c.timing
unfolding replies_read
sending-timing n now c =
    let c₁ = leased_core n now c in
    either (λ (x : Core). x.timing ≡ c₁.timing) c₁.frame.replies_waiting refl refl
    ∙ leased-keeps (λ (x : Core). x.timing) n now c (λ d t k. refl)

-- a state that a frame set leaves, with the duties that it orders
started-reads : (n : ℕ) (s : State) (now : ℕ) (replies : List LaneReply) (lane : ℕ)
    → buffers_fit n s.buffers ≡ true → (s.bank.core.timing.zero_high ≡ s.bank.core.timing.one_high → ⊥) → lane < n
    → ReadsBack n s (sent_state n now (sending_core n now s.bank.core) s.buffers replies) now
    (first_duties n (sending_core n now s.bank.core).timing (packets_sent n (sending_core n now s.bank.core))) lane
unfolding frame_started
started-reads n s now replies lane f ne l =
    let c = sending_core n now s.bank.core in
    let unequal : c.timing.zero_high ≡ c.timing.one_high → ⊥ =
    subst (λ (t : Timing). t.zero_high ≡ t.one_high → ⊥) (sym (sending-timing n now s.bank.core)) ne in
    record {
      part = (sequence_at n c lane).slots;
      seen = lane-seen n now c s.buffers replies (fitted n s.buffers f) lane l;
      read = lane-reads n lane c unequal l;
    }

pub sent-reads-back : SentReadsBack
sent-reads-back n s now taken present masks samples e orders in_second duties h ne lane l =
    let c = s.bank.core in
    let call = service_call now taken present masks samples in
    let accepted : is_refused (step n s call).answer ≡ false = ap is_refused h in
    let acts = accepted-acts n s call accepted in
    let z = service_core n now taken present masks samples s.bank.replies s.buffers c in
    let same : serviced z.event z.orders c.frame.in_second ≡ serviced e (orders ++ (start_frame duties ∷ [])) in_second = sym (ap (λ (r : Stepped). r.answer) acts) ∙ h in
    let ends : z.orders ≡ orders ++ (start_frame duties ∷ []) = cc same in
    let t = sent-tests n now taken present masks samples s.bank.replies s.buffers c
    (ap (last_duties none) ends ∙ last-append none orders (start_frame duties ∷ [])) in
    let leaves = sent-state n now taken present masks samples s.bank.replies s.buffers c t.0 t.1 t.2
    ∙ sym (ap (λ (r : Stepped). r.state) acts) in
    subst₂ (λ (x : State) (d : List ℕ). ReadsBack n s x now d lane) leaves t.3
    (started-reads n s now _ lane (service-fits n s now taken present masks samples accepted) ne l)
