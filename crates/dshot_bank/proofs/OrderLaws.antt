-- The orders of a call in one number. Lists of orders are put together, and come back from the number as they went in.
-- Assumes nothing.
use Rattle.std.specs.Prelude.{Option, option_map}
use Rattle.std.proofs.Common.{◌≡◌, ℕ, zero, suc, ◌+◌, ◌*◌, ◌/◌, ◌%◌, ◌^◌, ◌<◌, ◌≤◌, Bool, true, false, not, eqb, ltb, List, [], ◌∷◌, ◌++◌, length, replicate, sym, refl, ap, ◌∙◌, subst, arith, length-append}
use lib.Arith.{digits_div, digits_mod}
use lib.Seq.{append_snoc}
use Rattle.dshot_spec.specs.Tabulate.{tabulate}
use borrow.Author.Tests.{ltb-true}
use mathlib.Core.Option as Math
use Rattle.dshot_reply_spec.specs.Answer.{pick}
use Rattle.dshot_bank_spec.specs.Lanes.{position}
use Rattle.dshot_bank_spec.specs.State.{Core, Bank, Buffers}
use Rattle.dshot_bank_spec.specs.Send.{exchange_refused, frame_started, exchange_buffers, send_requested}
use Rattle.dshot_spec.specs.Lease.{lease_expired}
use Rattle.dshot_bank_spec.specs.With.{with_command_sequence}
use Rattle.dshot_bank_spec.specs.Commands.{clear_request_sent, next_command_frame}
use Rattle.dshot_bank_spec.specs.FrameSet.{next_set, packets_sent, first_duties}
use Rattle.dshot_bank_spec.specs.Service.{Skipped, Served, demand_expired, expire_lease, replies_read, service_busy, service_core, service}
use Rattle.dshot_bank_spec.specs.Interrupt.{Interrupted, is_complete, opens_window, lane_done, after_lane, on_dma_interrupt}
use Rattle.dshot_bank_spec.proofs.LaneLaws.{either}
use Rattle.dshot_bank_spec.specs.Order.{exchange_buffer, stop_frame, pause_and_clear, begin_receive, end_receive, latch_orders, start_orders, refused_orders}
use Rattle.dshot_bank_spec.specs.Order as Spec
use Rattle.dshot_bank_spec.specs.Calls.{Answer}
use Rattle.dshot_bank.specs.declared.DshotMotor.{DshotMotor}
use Rattle.dshot_bank.specs.declared.DshotMotor.TheVariants.{Motor1, Motor2, Motor3, Motor4}
use Rattle.dshot_bank.specs.declared.orders.OrderKind.{OrderKind}
use Rattle.dshot_bank.specs.declared.orders.Order.{Order}
use Rattle.dshot_bank.specs.declared.orders.Orders.{Orders}
use Rattle.dshot_bank.specs.States.{motor_of}
use Rattle.dshot_bank.specs.Orders.{codes_of, above, held, kind_at, entry_of, entry_orders, orders_from, orders_of, orders_in, Just, Whole}
use Rattle.dshot_bank_spec.specs.OrderNumber.{code, duties_in}

-- ---- lists put together

-- one list behind another
codes-append : (l m : List Spec.Order) → codes_of (l ++ m) ≡ codes_of l + above (length l) (codes_of m)
codes-append [] m = omega arith
codes-append (x ∷ l) m = let e = codes-append l m in omega arith

-- so many orders, and a list behind them
pub held_append : {o : Orders} (l m : List Spec.Order) (n : ℕ) → o ≡ held l → o.count ≡ n
    → ◌≡◌ {A = Orders} (record { count = n + length m; codes = o.codes + above n (codes_of m) }) (held (l ++ m))
unfolding held
held_append {o} l m n e h =
    let k : length l ≡ n = sym (ap (λ (q : Orders). q.count) e) ∙ h in
    let c : o.codes ≡ codes_of l = ap (λ (q : Orders). q.codes) e in
    let size : n + length m ≡ length (l ++ m) = ap (λ (i : ℕ). i + length m) (sym k) ∙ sym (length-append l m) in
    let sum : o.codes + above n (codes_of m) ≡ codes_of (l ++ m) = (λ j. c j + above (sym k j) (codes_of m)) ∙ sym (codes-append l m) in
    λ j. record { count = size j; codes = sum j }

-- the orders of a latched fault, moved up by at most four orders
pub moved_up : (n : ℕ) → n ≤ 4
    → (codes_of (latch_orders 4) * 2 ^ (7 * n) % 2 ^ 64 ≡ above n (codes_of (latch_orders 4))) × (codes_of (latch_orders 4) * 2 ^ (7 * n) % 2 ^ 64 < 2 ^ 62)
unfolding tabulate
moved_up zero h = (refl, omega arith)
moved_up (suc zero) h = (refl, omega arith)
moved_up (suc (suc zero)) h = (refl, omega arith)
moved_up (suc (suc (suc zero))) h = (refl, omega arith)
moved_up (suc (suc (suc (suc zero)))) h = (refl, omega arith)
moved_up (suc (suc (suc (suc (suc n))))) h = absurd (omega arith)

-- ---- orders that the number and the first duties can hold

-- an order comes back from its number and the first duties
pub record Own (d : List ℕ) (x : Spec.Order) : Type 0 where
  pub small : code x < 128
  pub order : entry_orders d (entry_of (code x)) ≡ x ∷ []

-- each of a list does
abbrev pub Kept : List ℕ → List Spec.Order → Type 0
Kept d l = orders_from d (length l) (codes_of l) ≡ l

-- the lowest order of a number, and the rest of it
lowest : (a c : ℕ) → a < 128 → ((a + 128 * c) % 128 ≡ a) × ((a + 128 * c) / 128 ≡ c)
lowest a c h =
    let e : a + 128 * c ≡ c * 128 + a = omega arith in
    (ap (λ (n : ℕ). n % 128) e ∙ digits_mod c h, ap (λ (n : ℕ). n / 128) e ∙ digits_div c h)

module _ (d : List ℕ) where
  pub kept_cons : (x : Spec.Order) (l : List Spec.Order) → Own d x → Kept d l → Kept d (x ∷ l)
  kept_cons x l o k =
      let low = lowest (code x) (codes_of l) o.small in
      (λ j. entry_orders d (entry_of (low.0 j)) ++ orders_from d (length l) (low.1 j)) ∙ (λ j. o.order j ++ k j)

  -- an order for each lane before others
  pub kept-lanes : (f : ℕ → Spec.Order) → ((m : ℕ) → m < 8 → Own d (f m)) → (n : ℕ) → n ≤ 8 → (l : List Spec.Order) → Kept d l → Kept d (tabulate n f ++ l)
  unfolding tabulate
  kept-lanes f own zero h l k = k
  kept-lanes f own (suc n) h l k =
      subst (λ (m : List Spec.Order). Kept d m) (sym (append_snoc (tabulate n f) (f n) l))
      (kept-lanes f own n (omega arith) (f n ∷ l) (kept_cons (f n) l (own n (omega arith)) k))

-- a list is whole if each of its orders comes back with the list's own first duties
pub whole : (l : List Spec.Order) → Kept (duties_in l) l → Whole l
unfolding held orders_of
whole l k = k

-- a whole list comes back
pub back : (o : Orders) (d : List ℕ) (l : List Spec.Order) → o ≡ held l → d ≡ duties_in l → Whole l → orders_of o d ≡ l
back o d l p q w = (λ j. orders_of (p j) (q j)) ∙ w

-- and nothing stands beside it, if these are the orders of the answer
pub just : (o : Orders) (d : List ℕ) (l : List Spec.Order) (a : Answer) → o ≡ held l → d ≡ duties_in l → orders_in a ≡ l → Just o d a
just o d l a p q e = record { number = p ∙ ap held (sym e); duties = q ∙ ap duties_in (sym e) }

-- the order with a number's kind and lane
abbrev pub entry_with : ℕ → ℕ → Option Order
entry_with q m = option_map (λ (k : OrderKind). record { kind = k; motor = m }) (kind_at q)

-- an order of a lane comes back: its number is eight times q, and the lane
own_lane : (d : List ℕ) (q m : ℕ) (x : Spec.Order) → m < 8 → code x ≡ q * 8 + m → q ≤ 8 → entry_orders d (entry_with q m) ≡ x ∷ [] → Own d x
own_lane d q m x hm e hq o =
    let kind : code x / 8 ≡ q = ap (λ (n : ℕ). n / 8) e ∙ digits_div q hm in
    let lane : code x % 8 ≡ m = ap (λ (n : ℕ). n % 8) e ∙ digits_mod q hm in
    record { small = omega arith; order = (λ j. entry_orders d (entry_with (kind j) (lane j))) ∙ o }

own-exchange : (d : List ℕ) (m : ℕ) → m < 8 → Own d (exchange_buffer m)
own-exchange d m h = own_lane d 1 m (exchange_buffer m) h refl (omega arith) refl

pub own-paused : (d : List ℕ) (m : ℕ) → m < 8 → Own d (pause_and_clear m)
own-paused d m h = own_lane d 6 m (pause_and_clear m) h refl (omega arith) refl

pub motor-small : {r : ℕ} (m : DshotMotor) → r ≡ motor_of m → r < 4
motor-small Motor1 e = omega arith
motor-small Motor2 e = omega arith
motor-small Motor3 e = omega arith
motor-small Motor4 e = omega arith

-- ---- the lists of orders of the calls

-- an order for each lane that has none
duties-lanes : (f : ℕ → Spec.Order) → ((m : ℕ) (l : List Spec.Order) → duties_in (f m ∷ l) ≡ duties_in l) → (n : ℕ) (l : List Spec.Order) → duties_in (tabulate n f ++ l) ≡ duties_in l
unfolding tabulate
duties-lanes f h zero l = refl
duties-lanes f h (suc n) l = ap duties_in (append_snoc (tabulate n f) (f n) l) ∙ duties-lanes f h n (f n ∷ l) ∙ h n l

pub duties-latched : replicate 4 0 ≡ duties_in (latch_orders 4)
unfolding tabulate
duties-latched = refl

pub duties-started : (d : List ℕ) → duties_in (start_orders 4 d) ≡ d
unfolding tabulate
duties-started d = refl

pub whole-none : Whole []
unfolding held orders_of
whole-none = refl

pub kept-latched : (d : List ℕ) → Kept d (latch_orders 4)
unfolding tabulate
kept-latched d = refl

pub whole-latched : Whole (latch_orders 4)
whole-latched = whole (latch_orders 4) (kept-latched _)

pub whole-started : (d : List ℕ) → Whole (start_orders 4 d)
unfolding held orders_of tabulate
whole-started d = refl

-- the exchanges up to a lane, and the orders of the fault
pub whole-refused : (k : ℕ) → k < 4 → Whole (refused_orders 4 k)
whole-refused k h = whole (refused_orders 4 k) (kept-lanes _ exchange_buffer (own-exchange _) (k + 1) (omega arith) (latch_orders 4) (kept-latched _))

pub duties-refused : (k : ℕ) → replicate 4 0 ≡ duties_in (refused_orders 4 k)
duties-refused k = duties-latched ∙ sym (duties-lanes exchange_buffer (λ m l. refl) (k + 1) (latch_orders 4))

-- ---- the orders of an interrupt

-- orders that have no first duties
pub record Quiet (l : List Spec.Order) : Type 0 where
  pub duties : replicate 4 0 ≡ duties_in l
  pub kept : Kept (replicate 4 0) l

pub quiet_none : Quiet []
quiet_none = record { duties = refl; kept = refl }

pub quiet-latched : Quiet (latch_orders 4)
quiet-latched = record { duties = duties-latched; kept = kept-latched _ }

pub quiet-cons : (x : Spec.Order) (l : List Spec.Order) → Own (replicate 4 0) x → duties_in l ≡ duties_in (x ∷ l) → Quiet l → Quiet (x ∷ l)
quiet-cons x l o e q = record { duties = q.duties ∙ e; kept = kept_cons _ x l o q.kept }

pub whole-quiet : (l : List Spec.Order) → Quiet l → Whole l
whole-quiet l q = whole l (subst (λ (d : List ℕ). Kept d l) q.duties q.kept)

-- what is ordered behind the pause of the lane
module _ (m : DshotMotor) where
  behind : (l : List Spec.Order) → Quiet l → Quiet (pause_and_clear (motor_of m) ∷ l)
  behind l q =
      let small = motor-small {r = motor_of m} m refl in
      quiet-cons (pause_and_clear (motor_of m)) l (own-paused _ (motor_of m) (omega arith)) refl q

  all-lanes : (x : Spec.Order) (l : List Spec.Order) → Own (replicate 4 0) x → duties_in l ≡ duties_in (x ∷ l) → Quiet l → Quiet (pause_and_clear (motor_of m) ∷ x ∷ l)
  all-lanes x l o e q = behind (x ∷ l) (quiet-cons x l o e q)

  module _ (complete error turned back : Bool) where
    quiet-after : (c : Core) → Quiet (after_lane 4 (motor_of m) complete error turned back c).orders
    unfolding after_lane
    quiet-after c =
        let P : Interrupted → Type 0 = λ r. Quiet r.orders in
        let receive : Own (replicate 4 0) begin_receive = record { small = omega arith; order = refl } in
        let transmit : Own (replicate 4 0) end_receive = record { small = omega arith; order = refl } in
        let stop : Own (replicate 4 0) stop_frame = record { small = omega arith; order = refl } in
        either P (not (eqb c.frame.completion_mask 15)) (behind [] quiet_none)
        (either P (opens_window c.frame)
        (either P turned (all-lanes begin_receive [] receive refl quiet_none) (all-lanes begin_receive (latch_orders 4) receive refl quiet-latched))
        (either P c.frame.receiving
        (either P back (all-lanes end_receive [] transmit refl quiet_none) (all-lanes end_receive (latch_orders 4) transmit refl quiet-latched))
        (all-lanes stop_frame [] stop refl quiet_none)))

    pub quiet-interrupt : (c : Core) → Quiet (on_dma_interrupt 4 (motor_of m) complete error turned back c).orders
    unfolding on_dma_interrupt
    quiet-interrupt c =
        let P : Interrupted → Type 0 = λ r. Quiet r.orders in
        let latched = behind (latch_orders 4) quiet-latched in
        either P c.frame.faulted (behind [] quiet_none)
        (either P (not c.frame.busy) latched
        (either P (is_complete (motor_of m) c.frame.completion_mask) latched
        (either P error latched
        (either P (not complete) latched (quiet-after (lane_done (motor_of m) c))))))

-- ---- the orders of a service

whole-exchanged : (now : ℕ) (taken : List Bool) (request : Math.Option ℕ) (duties : List ℕ) (c : Core) → Whole (exchange_buffers 4 now taken request duties c).orders
unfolding exchange_buffers exchange_refused
whole-exchanged now taken request duties c = at (ltb (position not taken) 4) refl
  where
    at : (t : Bool) → ltb (position not taken) 4 ≡ t
        → Whole (pick t (exchange_refused 4 (position not taken) c) (record { started = true; orders = start_orders 4 duties; core = frame_started 4 now request c })).orders
    at true e = whole-refused (position not taken) (ltb-true _ _ e)
    at false e = whole-started duties

pub whole-service : (now : ℕ) (taken present : List Bool) (masks samples : List ℕ) (bank : Bank) (buffers : Buffers) → Whole (service 4 now taken present masks samples bank buffers).orders
unfolding service_core service_busy send_requested
whole-service now taken present masks samples bank buffers =
    let P : Served → Type 0 = λ r. Whole r.orders in
    let Q : Skipped → Type 0 = λ r. Whole r.orders in
    let cleared = clear_request_sent bank.core in
    let expired = demand_expired now cleared.demand in
    let c = expire_lease 4 expired cleared in
    either P cleared.frame.faulted whole-none
    (either P c.frame.busy
    (either Q (lease_expired c.frame.started_ms 1 now) whole-latched (either Q expired whole-none whole-none))
    (whole-exchanged now taken (next_set 4 (replies_read c)).telemetry_request (first_duties 4 (replies_read c).timing (packets_sent 4 (replies_read c)))
    (with_command_sequence (next_command_frame (replies_read c)).left (replies_read c))))
