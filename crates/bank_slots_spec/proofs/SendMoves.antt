-- What the steps of sending a frame set write, and what that does to the bank in the slots.
-- Assumes nothing.
use mathlib.Core.Path.{◌≡◌, ◌∙◌, refl, sym, ap, subst}
use mathlib.Core.Bool.{Bool, true, false, not, true≢false}
use mathlib.Core.List.{List, [], ◌∷◌, ◌++◌}
use mathlib.Core.Option.{Option, none, some}
use Prim.Native.Nat.{ℕ, zero, suc, ◌+◌, ◌-◌, ◌*◌, ◌%◌, ◌^◌, ◌<◌, ◌≤◌}
use native.Mathlib.Omega.{arith}
use lib.Dec.{eqb, ltb}
use lib.ListN.{length, get_or, take, drop, replicate}
use borrow.Author.Tests.{not-true, not-false, eq-eqb, ne_eqb, lt-ltb, le-ltb}
use Rattle.dshot_reply_spec.specs.Answer.{pick}
use Rattle.dshot_spec.specs.Tabulate.{tabulate}
use Rattle.dshot_spec.specs.Timing.{Timing}
use Rattle.dshot_spec.specs.Packet.{Kind, motor_packets}
use Rattle.dshot_spec.specs.Packet as Packet
use Rattle.dshot_spec.specs.Command.{Command, Next, next_value}
use Rattle.dshot_bank_spec.specs.Lanes.{any, position, is_some}
use Rattle.dshot_bank_spec.specs.State.{Telemetry, Stats, MotorRun, Core, Bank, Buffers}
use Rattle.dshot_bank_spec.specs.With.{with_frames_started, with_started_ms, with_completion_mask, with_busy, with_in_second, with_telemetry, with_command_sequence, with_frame, with_stats, with_core}
use Rattle.dshot_bank_spec.specs.Order.{start_orders, refused_orders}
use Rattle.dshot_bank_spec.specs.Commands.{MotorCommand, NextFrame, next_of, next_of_run, next_command_frame}
use Rattle.dshot_bank_spec.specs.FrameSet.{FrameSet, as_lane, frame_set, next_set, kind_sent, packets_sent, first_duties, encode_lanes}
use Rattle.dshot_bank_spec.specs.Send.{sent_buffers, Sent, latch_fault, exchange_refused, frame_started, exchange_buffers, send_requested}
use Rattle.dshot_bank_spec.specs.Replies.{wrapping_add}
use Rattle.dshot_bank_spec.specs.Service.{frame_started_event, lease_expired_event, faulted, sent_event, sending}
use Rattle.dshot_bank_spec.specs.Steps.{buffers_fit}
use Rattle.dshot_bank_spec.proofs.LaneLaws.{on, off, under}
use Rattle.bank_slots_spec.specs.Memory.{Row, ◌holds◌, at, write, over, within, word, word_rows, long_rows}
use Rattle.bank_slots_spec.specs.Places.{slots, VALUES, REQUEST, REQUEST_SENT, RUN, BUSY, IN_SECOND, COMPLETION_MASK, STARTED, FRAMES_STARTED}
use Rattle.bank_slots_spec.specs.Load.{flag, choice, run_from, bank_at, load}
use Rattle.bank_slots_spec.specs.Store.{bit}
use Rattle.bank_slots_spec.specs.Written.{WrittenAt}
use Rattle.bank_slots_spec.specs.Moves.{Moves, on_core}
use Rattle.bank_slots_spec.specs.Parts.{bumped, run_stepped, marks_turned, carried_by, request_carried, in_flight}
use Rattle.bank_slots_spec.specs.Outs.{code_given, codes, service_event, service_slots}
use Rattle.bank_slots_spec.specs.Arguments.{taken}
use Rattle.bank_slots_spec.specs.Handles.{Serves}
use Rattle.bank_slots_spec.proofs.MemoryLaws.{length-write}
use Rattle.bank_slots_spec.proofs.CommandMoves.{values-part}
use Rattle.bank_slots_spec.proofs.MoveLaws.{moves-write, moves-then, moves-as, moves-at, stays, counted}
use Rattle.bank_slots_spec.proofs.FieldLaws.{flag-back, flag-written, long-back}

-- ---- the run of commands

-- the step of a run
abbrev run_next : Core → Core
run_next c = with_command_sequence (next_of_run c.command_sequence).left c

module _ (xs : List ℕ) where
  -- the run in the slots, if there is one, and its next frame
  next-there : (at xs RUN ≡ 0 → ⊥) → {next : Next} → next ≡ next_value 10 (run_from (RUN + 1) (at xs))
      → next_of_run (load xs).core.command_sequence ≡ next_of ((at xs RUN - 1) % 4) next.command next.run
  unfolding load
  next-there h e =
      sym (ap next_of_run (off none (some (record { motor = (at xs RUN - 1) % 4; sequence = run_from (RUN + 1) (at xs) })) (ne_eqb (at xs RUN) 0 h) refl))
      ∙ ap (λ (v : Next). next_of ((at xs RUN - 1) % 4) v.command v.run) (sym e)

  -- no run
  sequence-none : at xs RUN ≡ 0 → (load xs).core.command_sequence ≡ none
  unfolding load
  sequence-none h = sym (on none (some (record { motor = (at xs RUN - 1) % 4; sequence = run_from (RUN + 1) (at xs) })) (eq-eqb (at xs RUN) 0 h) refl)

-- What a step of a run answers, and what it leaves: the run after it. If the run is spent, it leaves none.
pub run-next : (xs : List ℕ) {ys : List ℕ} → (at xs RUN ≡ 0 → ⊥) → (next : Next) → next ≡ next_value 10 (run_from (RUN + 1) (at xs)) → {k : Command} → next.command ≡ k
    → Moves (on_core (with_command_sequence (next_of ((at xs RUN - 1) % 4) k next.run).left)) xs ys
    → ((next_of ((at xs RUN - 1) % 4) k next.run).command ≡ (next_of_run (load xs).core.command_sequence).command) × Moves (on_core run_next) xs ys
run-next xs h next e {k} c m =
    let q : next_of ((at xs RUN - 1) % 4) k next.run ≡ next_of_run (load xs).core.command_sequence =
    sym (next-there xs h e ∙ ap (λ (v : Command). next_of ((at xs RUN - 1) % 4) v next.run) c) in
    (ap (λ (f : NextFrame). f.command) q, moves-as m (ap (λ (f : NextFrame). on_core (with_command_sequence f.left) (load xs)) q))

-- a command is that of the next frame, and the run is stepped
abbrev Stepped : List ℕ → List ℕ → Option MotorCommand → Type 0
Stepped xs ys command = (command ≡ (next_command_frame (load xs).core).command) × Moves (on_core run_stepped) xs ys

module _ (xs : List ℕ) (n : length xs ≡ slots) (r : Bool) (e : r ≡ any (ltb 0) (take 4 (drop VALUES xs))) where
  requested : any (ltb 0) (load xs).core.demand.requested_values ≡ r
  unfolding load
  requested = ap (any (ltb 0)) (values-part xs n) ∙ sym e

  -- a throttle demand has cancelled the run
  pub frame-cancelled : {ys : List ℕ} → r ≡ true → Moves (on_core (with_command_sequence none)) xs ys → Stepped xs ys none
  unfolding next_command_frame
  frame-cancelled h m =
      let q : record { command = none; left = none } ≡ next_command_frame (load xs).core = on _ _ (requested ∙ h) refl in
      (ap (λ (f : NextFrame). f.command) q, moves-as m (ap (λ (f : NextFrame). on_core (with_command_sequence f.left) (load xs)) q))

  module _ (h : r ≡ false) where
    of-run : next_of_run (load xs).core.command_sequence ≡ next_command_frame (load xs).core
    unfolding next_command_frame
    of-run = off _ _ (requested ∙ h) refl

    -- there is no run
    pub frame-none : at xs RUN ≡ 0 → Stepped xs xs none
    frame-none z =
        let q : record { command = none; left = none } ≡ next_command_frame (load xs).core = sym (ap next_of_run (sequence-none xs z)) ∙ of-run in
        let s : (load xs).core.command_sequence ≡ none = sequence-none xs z in
        (ap (λ (f : NextFrame). f.command) q, stays (ap (λ (o : Option MotorRun). on_core (with_command_sequence o) (load xs)) (s ∙ ap (λ (f : NextFrame). f.left) q)))

    -- the run is stepped
    pub frame-stepped : {ys : List ℕ} {command : Option MotorCommand} → command ≡ (next_of_run (load xs).core.command_sequence).command → Moves (on_core run_next) xs ys → Stepped xs ys command
    frame-stepped c m = (
      c ∙ ap (λ (f : NextFrame). f.command) of-run,
      moves-as m (ap (λ (f : NextFrame). on_core (with_command_sequence f.left) (load xs)) of-run),
    )

-- ---- what is sent

-- the lane of a request
pub no-lane : (slot : ℕ) → slot ≡ 0 → Packet.none ≡ as_lane (choice slot)
no-lane slot h = ap as_lane (on none (some ((slot - 1) % 4)) (eq-eqb slot 0 h) refl)

pub request-lane : (slot : ℕ) → (slot ≡ 0 → ⊥) → Packet.lane ((slot - 1) % 4) ≡ as_lane (choice slot)
request-lane slot h = ap as_lane (off none (some ((slot - 1) % 4)) (ne_eqb slot 0 h) refl)

-- ---- the lanes that took their buffer

module _ (xs : List ℕ) where
  abbrev refuses : ℕ → Bool → Type 0
  refuses i b = not (flag (at xs i)) ≡ b

  pub taken_none : refuses 0 true → 0 ≡ position not (taken xs)
  unfolding position
  taken_none a = on _ _ a refl

  pub taken-one : refuses 0 false → refuses 1 true → 1 ≡ position not (taken xs)
  unfolding position
  taken-one a b = off _ _ a (ap suc (on _ _ b refl))

  pub taken-two : refuses 0 false → refuses 1 false → refuses 2 true → 2 ≡ position not (taken xs)
  unfolding position
  taken-two a b c = off _ _ a (ap suc (off _ _ b (ap suc (on _ _ c refl))))

  pub taken-three : refuses 0 false → refuses 1 false → refuses 2 false → refuses 3 true → 3 ≡ position not (taken xs)
  unfolding position
  taken-three a b c d = off _ _ a (ap suc (off _ _ b (ap suc (off _ _ c (ap suc (on _ _ d refl))))))

  pub taken-all : refuses 0 false → refuses 1 false → refuses 2 false → refuses 3 false → 4 ≡ position not (taken xs)
  unfolding position
  taken-all a b c d = off _ _ a (ap suc (off _ _ b (ap suc (off _ _ c (ap suc (off _ _ d refl))))))

-- ---- the marks

-- a lane's mark set
abbrev mark_set : ℕ → Bool → Core → Core
mark_set i v c = with_frame (with_in_second (tabulate 4 (λ (k : ℕ). pick (eqb k i) v (get_or c.frame.in_second k false))) c.frame) c

-- a mark that turns if a test holds
abbrev mark_turned : ℕ → Bool → Core → Core
mark_turned i b c = mark_set i (pick b (not (get_or c.frame.in_second i false)) (get_or c.frame.in_second i false)) c

abbrev mark_row : ℕ → List ℕ → List Row
mark_row k xs = (k holds bit (not (flag (at xs k)))) ∷ []

module _ (xs : List ℕ) (n : length xs ≡ slots) where
  length-mark : (b : Bool) (k : ℕ) → length (pick b (write (mark_row k xs) xs) xs) ≡ slots
  length-mark true k = length-write (mark_row k xs) xs ∙ n
  length-mark false k = n

  -- of lane i, whose slot is IN_SECOND + i
  mark-turned : (i : ℕ) → within (mark_row (IN_SECOND + i) xs) slots ≡ true
      → ((v : Bool) → bank_at (over ((IN_SECOND + i holds bit v) ∷ []) (at xs)) ≡ on_core (mark_set i (flag (bit v))) (bank_at (at xs)))
      → bank_at (at xs) ≡ on_core (mark_turned i false) (bank_at (at xs))
      → on_core (mark_set i (not (flag (at xs (IN_SECOND + i))))) (bank_at (at xs)) ≡ on_core (mark_turned i true) (bank_at (at xs))
      → ((v : Bool) → WrittenAt (at xs) → WrittenAt (over ((IN_SECOND + i holds bit v) ∷ []) (at xs)))
      → (b : Bool) → Moves (on_core (mark_turned i b)) xs (pick b (write (mark_row (IN_SECOND + i) xs) xs) xs)
  unfolding load
  mark-turned i h e s t w true =
      let v = not (flag (at xs (IN_SECOND + i))) in
      moves-write (mark_row (IN_SECOND + i) xs) xs n h (e v ∙ ap (λ (x : Bool). on_core (mark_set i x) (bank_at (at xs))) (flag-back v) ∙ t) (w v)
  mark-turned i h e s t w false = stays s

-- the four marks, one after another
module _ (xs us vs ws ys : List ℕ) (n : length xs ≡ slots) (turned : ℕ) where
  pub marks-turned : us ≡ pick (ltb 0 turned) (write (mark_row IN_SECOND xs) xs) xs
      → vs ≡ pick (ltb 1 turned) (write (mark_row (IN_SECOND + 1) us) us) us
      → ws ≡ pick (ltb 2 turned) (write (mark_row (IN_SECOND + 2) vs) vs) vs
      → ys ≡ pick (ltb 3 turned) (write (mark_row (IN_SECOND + 3) ws) ws) ws
      → Moves (on_core (marks_turned turned)) xs ys
  unfolding load tabulate
  marks-turned e f g h =
      let la : length us ≡ slots = ap length e ∙ length-mark xs n (ltb 0 turned) IN_SECOND in
      let lb : length vs ≡ slots = ap length f ∙ length-mark us la (ltb 1 turned) (IN_SECOND + 1) in
      let lc : length ws ≡ slots = ap length g ∙ length-mark vs lb (ltb 2 turned) (IN_SECOND + 2) in
      let a : Moves (on_core (mark_turned 0 (ltb 0 turned))) xs us =
      moves-at (sym e) (mark-turned xs n 0 refl (λ v. refl) refl refl (λ v w. (w.0, ((flag-written v, w.1.0.1, w.1.0.2, w.1.0.3), w.1.1))) (ltb 0 turned)) in
      let b : Moves (on_core (mark_turned 1 (ltb 1 turned))) us vs =
      moves-at (sym f) (mark-turned us la 1 refl (λ v. refl) refl refl (λ v w. (w.0, ((w.1.0.0, flag-written v, w.1.0.2, w.1.0.3), w.1.1))) (ltb 1 turned)) in
      let c : Moves (on_core (mark_turned 2 (ltb 2 turned))) vs ws =
      moves-at (sym g) (mark-turned vs lb 2 refl (λ v. refl) refl refl (λ v w. (w.0, ((w.1.0.0, w.1.0.1, flag-written v, w.1.0.3), w.1.1))) (ltb 2 turned)) in
      let d : Moves (on_core (mark_turned 3 (ltb 3 turned))) ws ys =
      moves-at (sym h) (mark-turned ws lc 3 refl (λ v. refl) refl refl (λ v w. (w.0, ((w.1.0.0, w.1.0.1, w.1.0.2, flag-written v), w.1.1))) (ltb 3 turned)) in
      moves-as (moves-then a (moves-then b (moves-then c d))) refl

-- ---- the exchange

-- a lane refuses its buffer
pub exchange-refused : {xs ys zs : List ℕ} (lane : ℕ) → Moves (on_core (marks_turned lane)) xs ys → Moves (on_core (latch_fault 4 false)) ys zs
    → Moves (on_core (λ (c : Core). (exchange_refused 4 lane c).core)) xs zs
unfolding exchange_refused
exchange-refused lane a b = moves-as (moves-then a b) refl

-- a frame set in flight
abbrev flown : ℕ → Core → Core
flown now c = with_frame (with_busy true (with_completion_mask 0 (with_started_ms now c.frame))) c

abbrev flown_rows : ℕ → List Row
flown_rows now = long_rows STARTED now ++ (word_rows COMPLETION_MASK 0 ++ ((BUSY holds 1) ∷ []))

module _ (xs : List ℕ) (n : length xs ≡ slots) (now : ℕ) {us vs : List ℕ} (e : us ≡ write (long_rows STARTED now) xs) (f : vs ≡ write (word_rows COMPLETION_MASK 0) us) where
  flown-rows : write ((BUSY holds 1) ∷ []) vs ≡ write (flown_rows now) xs
  flown-rows = ap (write ((BUSY holds 1) ∷ [])) (f ∙ ap (write (word_rows COMPLETION_MASK 0)) e)

  pub flown-length : length (write ((BUSY holds 1) ∷ []) vs) ≡ slots
  flown-length = ap length flown-rows ∙ length-write (flown_rows now) xs ∙ n

  module _ {ys : List ℕ} (g : ys ≡ bumped FRAMES_STARTED (write ((BUSY holds 1) ∷ []) vs)) where
    pub in-flight-length : length ys ≡ length xs
    in-flight-length =
        let zs = write ((BUSY holds 1) ∷ []) vs in
        ap length g ∙ length-write (word_rows FRAMES_STARTED (wrapping_add (word FRAMES_STARTED (at zs)))) zs ∙ flown-length ∙ sym n

    pub in-flight : now < 2 ^ 64 → Moves (on_core (in_flight now)) xs ys
    in-flight h =
        let zs = write (flown_rows now) xs in
        let one : Moves (on_core (flown now)) xs zs =
        moves-write (flown_rows now) xs n refl (λ j. on_core (flown (long-back now h j)) (bank_at (at xs))) (λ w. ((refl, w.0.1, w.0.2, w.0.3, w.0.4, w.0.5), w.1)) in
        let two : Moves (on_core (λ (c : Core). with_stats (with_frames_started (wrapping_add c.stats.frames_started) c.stats) c)) zs (bumped FRAMES_STARTED zs) =
        counted zs (length-write (flown_rows now) xs ∙ n) FRAMES_STARTED with_frames_started (λ (s : Stats). s.frames_started) refl (λ v. refl) refl (λ w. w) in
        moves-at (sym (g ∙ ap (bumped FRAMES_STARTED) flown-rows)) (moves-as (moves-then one two) refl)

-- a request that is carried
abbrev carried_rows : ℕ → List Row
carried_rows request = (REQUEST holds 0) ∷ (REQUEST_SENT holds request) ∷ []

module _ (xs : List ℕ) (n : length xs ≡ slots) where
  -- a special command's frame carries none
  pub none-carried : (ordinary : Bool) → not ordinary ≡ true → Moves (on_core (request_carried ordinary)) xs xs
  none-carried ordinary h = stays (ap (λ (b : Bool). on_core (request_carried b) (load xs)) (sym (not-true ordinary h)))

  -- there is no request
  pub no-request : (ordinary : Bool) → at xs REQUEST ≡ 0 → Moves (on_core (request_carried ordinary)) xs xs
  unfolding load
  no-request true z =
      let e : is_some (choice (at xs REQUEST)) ≡ false = ap is_some (sym (on none (some ((at xs REQUEST - 1) % 4)) (eq-eqb (at xs REQUEST) 0 z) refl)) in
      stays (ap (λ (t : Telemetry). on_core (with_telemetry t) (bank_at (at xs))) (off _ _ e refl))
  no-request false z = stays refl

  pub request-carried : (ordinary : Bool) → not ordinary ≡ false → (at xs REQUEST ≡ 0 → ⊥) → Moves (on_core (request_carried ordinary)) xs (write (carried_rows (at xs REQUEST)) xs)
  unfolding load
  request-carried ordinary h z =
      let e : is_some (choice (at xs REQUEST)) ≡ true = ap is_some (sym (off none (some ((at xs REQUEST - 1) % 4)) (ne_eqb (at xs REQUEST) 0 z) refl)) in
      let m : Moves (on_core (request_carried true)) xs (write (carried_rows (at xs REQUEST)) xs) =
      moves-write (carried_rows (at xs REQUEST)) xs n refl
      (ap (λ (t : Telemetry). on_core (with_telemetry t) (bank_at (at xs))) (on _ _ e refl))
      (λ w. (w.0, (w.1.0, ((refl, w.1.1.0.0, w.1.1.0.2), w.1.1.1)))) in
      subst (λ (b : Bool). Moves (on_core (request_carried b)) xs (write (carried_rows (at xs REQUEST)) xs)) (sym (not-false ordinary h)) m

-- a frame set that starts
pub frame-starts : {xs us vs ys : List ℕ} (now : ℕ) (ordinary : Bool) → Moves (on_core (marks_turned 4)) xs us → Moves (on_core (in_flight now)) us vs → Moves (on_core (request_carried ordinary)) vs ys
    → Moves (on_core (λ (c : Core). frame_started 4 now (carried_by ordinary c) c)) xs ys
unfolding frame_started
frame-starts now ordinary a b c = moves-as (moves-then a (moves-then b c)) refl

-- ---- a frame set

-- ---- the numbers of orders

-- An order to exchange. If the lane sends from the second buffer, it names the first, and the other way round.
pub exchange-first : (lane : ℕ) (in_second : Bool) → in_second ≡ true → 8 + lane ≡ 8 * 1 + lane + 4 * bit (not in_second)
exchange-first lane true e = omega arith
exchange-first lane false e = absurd (true≢false (sym e))

pub exchange-second : (lane : ℕ) (in_second : Bool) → in_second ≡ false → 8 + lane + 4 ≡ 8 * 1 + lane + 4 * bit (not in_second)
exchange-second lane true e = absurd (true≢false e)
exchange-second lane false e = omega arith

module _ (marks : List Bool) where
  -- a lane's order to exchange
  abbrev given : ℕ → ℕ
  given m = 8 * 1 + m + 4 * bit (not (get_or marks m false))

  -- the orders of a frame set that starts
  pub start-coded : {a b c d : ℕ} → a ≡ given 0 → b ≡ given 1 → c ≡ given 2 → d ≡ given 3
      → ◌≡◌ {A = List ℕ} (a ∷ b ∷ c ∷ d ∷ 16 ∷ 17 ∷ 18 ∷ 19 ∷ 24 ∷ []) (codes 9 (code_given marks) (start_orders 4 []))
  unfolding tabulate
  start-coded a b c d = λ j. a j ∷ b j ∷ c j ∷ d j ∷ 16 ∷ 17 ∷ 18 ∷ 19 ∷ 24 ∷ []

  -- and of one that is refused at a lane
  at-lane : {k lane : ℕ} → lane ≡ k → codes 9 (code_given marks) (refused_orders 4 k) ≡ codes 9 (code_given marks) (refused_orders 4 lane)
  at-lane e = sym (ap (λ (i : ℕ). codes 9 (code_given marks) (refused_orders 4 i)) e)

  module _ {lane a b c d : ℕ} {r : List ℕ} (p : a ≡ given 0) (q : b ≡ given 1) (s : c ≡ given 2) (t : d ≡ given 3) where
    pub refused-0 : lane ≡ 0 → r ≡ a ∷ 40 ∷ 48 ∷ 49 ∷ 50 ∷ 51 ∷ 0 ∷ 0 ∷ 0 ∷ [] → r ≡ codes 9 (code_given marks) (refused_orders 4 lane)
    unfolding tabulate
    refused-0 e h = h ∙ (λ j. p j ∷ 40 ∷ 48 ∷ 49 ∷ 50 ∷ 51 ∷ 0 ∷ 0 ∷ 0 ∷ []) ∙ at-lane e

    pub refused-1 : lane ≡ 1 → r ≡ a ∷ b ∷ 40 ∷ 48 ∷ 49 ∷ 50 ∷ 51 ∷ 0 ∷ 0 ∷ [] → r ≡ codes 9 (code_given marks) (refused_orders 4 lane)
    unfolding tabulate
    refused-1 e h = h ∙ (λ j. p j ∷ q j ∷ 40 ∷ 48 ∷ 49 ∷ 50 ∷ 51 ∷ 0 ∷ 0 ∷ []) ∙ at-lane e

    pub refused-2 : lane ≡ 2 → r ≡ a ∷ b ∷ c ∷ 40 ∷ 48 ∷ 49 ∷ 50 ∷ 51 ∷ 0 ∷ [] → r ≡ codes 9 (code_given marks) (refused_orders 4 lane)
    unfolding tabulate
    refused-2 e h = h ∙ (λ j. p j ∷ q j ∷ s j ∷ 40 ∷ 48 ∷ 49 ∷ 50 ∷ 51 ∷ 0 ∷ []) ∙ at-lane e

    pub refused-3 : lane ≡ 3 → r ≡ a ∷ b ∷ c ∷ d ∷ 40 ∷ 48 ∷ 49 ∷ 50 ∷ 51 ∷ [] → r ≡ codes 9 (code_given marks) (refused_orders 4 lane)
    unfolding tabulate
    refused-3 e h = h ∙ (λ j. p j ∷ q j ∷ s j ∷ t j ∷ 40 ∷ 48 ∷ 49 ∷ 50 ∷ 51 ∷ []) ∙ at-lane e

-- the answer if a lane refuses its buffer
refused-told : (in_second : List Bool) (lane : ℕ) → lane < 4
    → 3 ∷ (lane + 6) ∷ (codes 9 (code_given in_second) (refused_orders 4 lane) ++ replicate 4 0) ≡ service_slots faulted (refused_orders 4 lane) in_second
unfolding tabulate
refused-told in_second zero h = refl
refused-told in_second (suc zero) h = refl
refused-told in_second (suc (suc zero)) h = refl
refused-told in_second (suc (suc (suc zero))) h = refl
refused-told in_second (suc (suc (suc (suc n)))) h = absurd (omega arith)

-- a stepped run changes nothing that a frame set is made of
set-stepped : (c : Core) (left : Option MotorRun) (m : Option MotorCommand) → frame_set 4 (with_command_sequence left c) m ≡ frame_set 4 c m
set-stepped c left none = refl
set-stepped c left (some m) = refl

module _ (xs ys : List ℕ) (m : Option MotorCommand) (s : Stepped xs ys m) where
  abbrev before : Core
  before = (load xs).core

  -- of the core after the step: what it keeps
  kept : {A : Type 0} (f : Core → A) → f (load ys).core ≡ f (run_stepped before)
  kept f = ap (λ (b : Bank). f b.core) s.1.loads

  chosen : frame_set 4 (load ys).core m ≡ next_set 4 before
  chosen = kept (λ (c : Core). frame_set 4 c m) ∙ set-stepped before (next_command_frame before).left m ∙ ap (frame_set 4 before) s.0

  pub packets-sent : {kind : Kind} {values : List ℕ} {lane : Packet.TelemetryLane} {words : List ℕ} → kind ≡ kind_sent (load ys).core
      → values ≡ (frame_set 4 (load ys).core m).values → lane ≡ (frame_set 4 (load ys).core m).telemetry_lane
      → words ≡ motor_packets 4 kind values lane → words ≡ packets_sent 4 before
  packets-sent k v l w =
      let kind = k ∙ kept kind_sent in
      let values = v ∙ ap (λ (f : FrameSet). f.values) chosen in
      let lane = l ∙ ap (λ (f : FrameSet). f.telemetry_lane) chosen in
      w ∙ (λ j. motor_packets 4 (kind j) (values j) (lane j))

  -- the first duties and the spares, of two buffers of 64 slots
  module _ (b : Buffers) (f : length b.first ≡ 64) (g : length b.second ≡ 64) where
    slots-fit : buffers_fit 4 b ≡ true
    slots-fit = sym (on _ _ (eq-eqb (length b.first) 64 f) (sym (eq-eqb (length b.second) 64 g)))

    module _ {timing : Timing} {words : List ℕ} (t : timing ≡ (load ys).core.timing) (w : words ≡ packets_sent 4 before) where
      pub duties-sent : {duties : List ℕ} → duties ≡ pick (buffers_fit 4 b) (first_duties 4 timing words) (replicate 4 0) → duties ≡ first_duties 4 before.timing (packets_sent 4 before)
      duties-sent e =
          let time = t ∙ kept (λ (c : Core). c.timing) in
          e ∙ sym (on (first_duties 4 timing words) (replicate 4 0) slots-fit refl) ∙ (λ j. first_duties 4 (time j) (w j))

      pub spares-sent : {marks : List Bool} {after : Buffers} → marks ≡ (load ys).core.frame.in_second → after ≡ pick (buffers_fit 4 b) (encode_lanes 4 timing marks words b) b
          → after ≡ sent_buffers 4 before b
      spares-sent {marks} k e =
          let time = t ∙ kept (λ (c : Core). c.timing) in
          let mark = k ∙ kept (λ (c : Core). c.frame.in_second) in
          e ∙ sym (on (encode_lanes 4 timing marks words b) b slots-fit refl) ∙ (λ j. encode_lanes 4 (time j) (mark j) (w j) b)

  -- what is answered, and what is left
  module _ (now : ℕ) (expired : Bool) (lanes : List ℕ) (b : Buffers) {b' : Buffers} (q : b' ≡ sent_buffers 4 before b) where
    abbrev Sends : List ℕ → List ℕ → Type 0
    Sends zs out = Serves (λ (k : Bank) (u : Buffers). sending 4 now (taken lanes) [] [] [] [] u expired k.core k.replies) b b' xs zs out

    sends : {f : Bank → Bank} {zs out : List ℕ} (sent : Sent) → sent ≡ send_requested 4 now (taken lanes) before → Moves f xs zs → f (load xs) ≡ with_core sent.core (load xs)
        → out ≡ service_slots (sent_event sent.started expired) sent.orders before.frame.in_second → Sends zs out
    sends sent e m c t = record {
      moves = moves-as m (c ∙ ap (λ (r : Sent). with_core r.core (load xs)) e);
      buffers = q;
      told = t ∙ ap (λ (r : Sent). service_slots (sent_event r.started expired) r.orders before.frame.in_second) e;
    }

    -- a lane refuses its buffer
    pub sends-refused : {zs out : List ℕ} (lane : ℕ) → lane ≡ position not (taken lanes) → lane < 4
        → Moves (on_core (λ (c : Core). (exchange_refused 4 lane c).core)) ys zs
        → {marks : List Bool} → marks ≡ (load ys).core.frame.in_second
        → {told : List ℕ} → told ≡ codes 9 (code_given marks) (refused_orders 4 lane) → out ≡ 3 ∷ (lane + 6) ∷ (told ++ replicate 4 0)
        → Sends zs out
    unfolding send_requested exchange_buffers exchange_refused
    sends-refused lane e h m {marks} k o t =
        let mark = k ∙ kept (λ (c : Core). c.frame.in_second) in
        sends (exchange_refused 4 lane (run_stepped before))
        (on _ _ (ap (λ (i : ℕ). ltb i 4) (sym e) ∙ lt-ltb lane 4 h) (ap (λ (i : ℕ). exchange_refused 4 i (run_stepped before)) e))
        (moves-then s.1 m) refl
        (t ∙ ap (λ (l : List ℕ). 3 ∷ (lane + 6) ∷ (l ++ replicate 4 0)) (o ∙ ap (λ (l : List Bool). codes 9 (code_given l) (refused_orders 4 lane)) mark)
        ∙ refused-told before.frame.in_second lane h)

    -- the frame set starts
    pub sends-started : {zs out duties : List ℕ} (ordinary : Bool) {lane : ℕ} → lane ≡ position not (taken lanes) → 4 ≤ lane
        → carried_by ordinary (load ys).core ≡ (frame_set 4 (load ys).core m).telemetry_request
        → Moves (on_core (λ (c : Core). frame_started 4 now (carried_by ordinary c) c)) ys zs
        → {event : ℕ} → event ≡ pick expired 2 0 → duties ≡ first_duties 4 before.timing (packets_sent 4 before)
        → {marks : List Bool} → marks ≡ (load ys).core.frame.in_second
        → {told : List ℕ} → told ≡ codes 9 (code_given marks) (start_orders 4 []) → out ≡ event ∷ 9 ∷ (told ++ duties)
        → Sends zs out
    unfolding send_requested exchange_buffers tabulate
    sends-started ordinary {lane} e h r m v d {marks} k o t =
        let mark = k ∙ kept (λ (c : Core). c.frame.in_second) in
        let orders = o ∙ ap (λ (l : List Bool). codes 9 (code_given l) (start_orders 4 [])) mark in
        let request = sym (kept (carried_by ordinary)) ∙ r ∙ ap (λ (f : FrameSet). f.telemetry_request) chosen in
        sends (record { started = true; orders = start_orders 4 (first_duties 4 before.timing (packets_sent 4 before)); core = frame_started 4 now (next_set 4 before).telemetry_request (run_stepped before) })
        (off _ _ (ap (λ (i : ℕ). ltb i 4) (sym e) ∙ le-ltb lane 4 h) refl)
        (moves-then s.1 m)
        (ap (λ (o : Option ℕ). with_core (frame_started 4 now o (run_stepped before)) (load xs)) request)
        (t ∙ (λ j. (v ∙ under service_event expired lease_expired_event frame_started_event) j ∷ 9 ∷ (orders j ++ d j)))
