-- What the steps of a service write, and what that does to the bank in the slots.
-- Assumes nothing.
use Rattle.std.specs.Prelude.{if◌then◌else◌}
use mathlib.Core.Path.{◌≡◌, ◌∙◌, refl, sym, ap}
use mathlib.Core.Bool.{Bool, true, false}
use mathlib.Core.List.{List, [], ◌∷◌}
use mathlib.Core.Option.{none, some}
use Prim.Native.Nat.{ℕ, suc, ◌-◌}
use native.Mathlib.Omega.{arith}
use lib.Dec.{leb}
use lib.ListN.{length, replicate}
use borrow.Author.Tests.{eq-eqb, ne_eqb}
use Rattle.dshot_spec.specs.Tabulate.{tabulate}
use Rattle.dshot_spec.specs.Lease.{elapsed, lease_expired}
use Rattle.dshot_bank_spec.specs.State.{Stats, Core, Bank, Buffers, lease_of}
use Rattle.dshot_bank_spec.specs.With.{with_busy_skips, with_lease_expiries, with_frame_timeouts, with_replies_waiting, with_replies_held, with_frame, with_core}
use Rattle.dshot_bank_spec.specs.Order.{latch_orders}
use Rattle.dshot_bank_spec.specs.Commands.{command_stop, clear_request_sent}
use Rattle.dshot_bank_spec.specs.Send.{latch_fault}
use Rattle.dshot_bank_spec.specs.Service.{is_some_and_expired, demand_expired, expire_lease, count_busy_skip, count_timeout, Skipped, skipped, service_busy, replies_read, read_replies, Served, unsent, sending, service_core, service}
use Rattle.dshot_bank_spec.specs.Service as Service
use Rattle.dshot_bank_spec.specs.Calls.{Call, service_call, refused, State, Stepped, told, act}
use Rattle.dshot_bank_spec.specs.Steps.{service_fits, length_refusal, port_refusal, refuse_or, step}
use Rattle.dshot_bank_spec.proofs.LaneLaws.{on, off}
use Rattle.bank_slots_spec.specs.Memory.{at}
use Rattle.bank_slots_spec.specs.Memory as Memory
use Rattle.bank_slots_spec.specs.Places.{slots, LEASE_STARTED, LEASE_OVER, BUSY, FAULTED, STARTED, BUSY_SKIPS, LEASE_EXPIRIES, FRAME_TIMEOUTS}
use Rattle.bank_slots_spec.specs.Load.{load, flag}
use Rattle.bank_slots_spec.specs.Moves.{Moves, on_core}
use Rattle.bank_slots_spec.specs.Parts.{bumped, windows_read}
use Rattle.bank_slots_spec.specs.Called.{Called, fit, sized, number, state_at, answer_of, buffers_after}
use Rattle.bank_slots_spec.specs.Outs.{service_slots, out_after}
use Rattle.bank_slots_spec.specs.Arguments.{taken, present, masks}
use Rattle.bank_slots_spec.specs.Handles.{Skips, Serves}
use Rattle.bank_slots_spec.proofs.MoveLaws.{moves-then, moves-as, moves-at, stays, counted}
use Rattle.bank_slots_spec.proofs.CalledLaws.{state-short, state-fits, other-short, answer-unfit, answer-fits, buffers-unfit, buffers-fits, called-unfit, called-refused, called-done, out-kept, out-filled}

-- ---- the lease

-- the duration is one less than the number of a lease
held : (over : ℕ) → (over ≡ 0 → ⊥) → lease_of over ≡ some (over - 1)
held over h = sym (off none (some (over - 1)) (ne_eqb over 0 h) refl)

module _ (now : ℕ) (xs : List ℕ) where
  abbrev is_expired : ℕ → Bool
  is_expired over = is_some_and_expired (Memory.long LEASE_STARTED (at xs)) now (lease_of over)

  pub no-lease : Memory.long LEASE_OVER (at xs) ≡ 0 → false ≡ demand_expired now (load xs).core.demand
  unfolding load demand_expired
  no-lease e = sym (ap is_expired e)

  pub lease-over : (over passed : ℕ) → over ≡ Memory.long LEASE_OVER (at xs) → (over ≡ 0 → ⊥) → passed ≡ elapsed 64 (Memory.long LEASE_STARTED (at xs)) now
      → leb over passed ≡ demand_expired now (load xs).core.demand
  unfolding load demand_expired lease_expired
  lease-over over passed e h p =
      let q : over ≡ suc (over - 1) = omega (arith, h) in
      (λ j. leb (q j) (p j)) ∙ sym (ap (is_some_and_expired (Memory.long LEASE_STARTED (at xs)) now) (held over h)) ∙ ap is_expired e

module _ {xs : List ℕ} (expired : Bool) where
  pub lease-lasts : expired ≡ false → Moves (on_core (expire_lease 4 expired)) xs xs
  unfolding expire_lease
  lease-lasts e = stays (ap (λ (c : Core). with_core c (load xs)) (off _ _ e refl))

  pub lease-ended : (ys : List ℕ) → length ys ≡ slots → expired ≡ true → Moves (on_core (command_stop 4)) xs ys
      → Moves (on_core (expire_lease 4 expired)) xs (bumped LEASE_EXPIRIES ys)
  unfolding expire_lease command_stop
  lease-ended ys n e m =
      moves-as (moves-then m (counted ys n LEASE_EXPIRIES with_lease_expiries (λ (s : Stats). s.lease_expiries) refl (λ v. refl) refl (λ w. w)))
      (ap (λ (c : Core). with_core c (load xs)) (on _ _ e refl))

-- ---- a frame in flight

module _ (xs : List ℕ) (n : length xs ≡ slots) where
  pub busy-skip-counted : Moves (on_core count_busy_skip) xs (bumped BUSY_SKIPS xs)
  busy-skip-counted = counted xs n BUSY_SKIPS with_busy_skips (λ (s : Stats). s.busy_skips) refl (λ v. refl) refl (λ w. w)

  pub timed-out : {ys zs : List ℕ} → ys ≡ bumped FRAME_TIMEOUTS xs → Moves (on_core (latch_fault 4 false)) ys zs → Moves (on_core (λ (c : Core). latch_fault 4 false (count_timeout c))) xs zs
  timed-out e m =
      moves-as (moves-then (moves-at (sym e) (counted xs n FRAME_TIMEOUTS with_frame_timeouts (λ (s : Stats). s.frame_timeouts) refl (λ v. refl) refl (λ w. w))) m) refl

-- an event without orders
abbrev pub event_slots : ℕ → List ℕ
event_slots event = event ∷ replicate 14 0

-- a latched fault with its orders
abbrev pub fault_slots : List ℕ
fault_slots = 3 ∷ 5 ∷ 40 ∷ 48 ∷ 49 ∷ 50 ∷ 51 ∷ 0 ∷ 0 ∷ 0 ∷ 0 ∷ 0 ∷ 0 ∷ 0 ∷ 0 ∷ []

-- another name of the service, at the core that it starts from
skips-as : {f g : Core → Skipped} {xs ys out : List ℕ} → Skips f xs ys out → f (load xs).core ≡ g (load xs).core → Skips g xs ys out
skips-as {f} {g} {xs} h e = record {
  moves = moves-as h.moves (ap (λ (s : Skipped). with_core s.core (load xs)) e);
  told = h.told ∙ ap (λ (s : Skipped). service_slots s.event s.orders (load xs).core.frame.in_second) e;
}

module _ (now : ℕ) {xs ys : List ℕ} (m : Moves (on_core count_busy_skip) xs ys) where
  -- the count leaves the time of the start
  in-time : {late : Bool} → lease_expired (Memory.long STARTED (at ys)) 1 now ≡ late → lease_expired (load xs).core.frame.started_ms 1 now ≡ late
  unfolding load
  in-time t = sym (ap (λ (b : Bank). lease_expired b.core.frame.started_ms 1 now) m.loads) ∙ t

  module _ (expired : Bool) {out : List ℕ} where
    pub busy-late : {zs : List ℕ} → lease_expired (Memory.long STARTED (at ys)) 1 now ≡ true → Moves (on_core (λ (c : Core). latch_fault 4 false (count_timeout c))) ys zs
        → out ≡ fault_slots → Skips (service_busy 4 now expired) xs zs out
    unfolding service_busy tabulate
    busy-late {zs} t l o =
        let h : Skips (λ (c : Core). skipped Service.faulted (latch_orders 4) (latch_fault 4 false (count_timeout (count_busy_skip c)))) xs zs out = record { moves = moves-as (moves-then m l) refl; told = o } in
        skips-as h (on _ _ (in-time t) refl)

    pub busy-expired : lease_expired (Memory.long STARTED (at ys)) 1 now ≡ false → expired ≡ true → out ≡ event_slots 2 → Skips (service_busy 4 now expired) xs ys out
    unfolding service_busy
    busy-expired t e o =
        let h : Skips (λ (c : Core). skipped Service.lease_expired_event [] (count_busy_skip c)) xs ys out = record { moves = m; told = o } in
        skips-as h (off _ _ (in-time t) (on _ _ e refl))

    pub busy-busy : lease_expired (Memory.long STARTED (at ys)) 1 now ≡ false → expired ≡ false → out ≡ event_slots 1 → Skips (service_busy 4 now expired) xs ys out
    unfolding service_busy
    busy-busy t e o =
        let h : Skips (λ (c : Core). skipped Service.busy [] (count_busy_skip c)) xs ys out = record { moves = m; told = o } in
        skips-as h (off _ _ (in-time t) (off _ _ e refl))

-- ---- a service

-- another name of the service, at the bank that it starts from
serves-as : {f g : Bank → Buffers → Served} {b b' : Buffers} {xs ys out : List ℕ} → Serves f b b' xs ys out → f (load xs) b ≡ g (load xs) b → Serves g b b' xs ys out
serves-as {xs = xs} h e = record {
  moves = moves-as h.moves (ap (λ (s : Served). s.bank) e);
  buffers = h.buffers ∙ ap (λ (s : Served). s.buffers) e;
  told = h.told ∙ ap (λ (s : Served). service_slots s.event s.orders (load xs).core.frame.in_second) e;
}

-- a step that leaves the marks
abbrev KeepsMarks : (Bank → Bank) → Type 0
KeepsMarks g = (k : Bank) → (g k).core.frame.in_second ≡ k.core.frame.in_second

-- after a step of the bank
serves-after : {f : Bank → Buffers → Served} {g : Bank → Bank} {b b' : Buffers} {xs ys zs out : List ℕ} → KeepsMarks g → Moves g xs ys → Serves f b b' ys zs out
    → Serves (λ (k : Bank). f (g k)) b b' xs zs out
serves-after {f} {g} {b} {xs = xs} marks m h = record {
  moves = moves-as (moves-then m h.moves) refl;
  buffers = h.buffers ∙ ap (λ (k : Bank). (f k b).buffers) m.loads;
  told =
      h.told
      ∙ ap (λ (k : Bank). service_slots (f k b).event (f k b).orders k.core.frame.in_second) m.loads
      ∙ ap (service_slots (f (g (load xs)) b).event (f (g (load xs)) b).orders) (marks (load xs));
}

-- the steps before a frame set is sent leave them
lease-marks : (expired : Bool) (c : Core) → (expire_lease 4 expired (clear_request_sent c)).frame.in_second ≡ c.frame.in_second
unfolding expire_lease command_stop clear_request_sent
lease-marks true c = refl
lease-marks false c = refl

read-marks : (c : Core) → (replies_read c).frame.in_second ≡ c.frame.in_second
unfolding replies_read
read-marks c = side c.frame.replies_waiting
  where
    side : (t : Bool) → (if t then with_frame (with_replies_held true (with_replies_waiting false c.frame)) c else c).frame.in_second ≡ c.frame.in_second
    side true = refl
    side false = refl

-- nothing is sent: replies and buffers stay
abbrev keeping : (Core → Skipped) → Bank → Buffers → Served
keeping f k b = unsent 4 0 [] [] [] [] k.replies b (f k.core)

serves-skipped : {f : Core → Skipped} {b : Buffers} {xs ys out : List ℕ} → Skips f xs ys out → Serves (keeping f) b b xs ys out
serves-skipped h = record { moves = moves-as h.moves refl; buffers = refl; told = h.told }

module _ (now : ℕ) (lanes samples : List ℕ) (b : Buffers) {xs ys : List ℕ} (m : Moves (on_core clear_request_sent) xs ys) where
  abbrev served : Bank → Buffers → Served
  served = service 4 now (taken lanes) (present lanes) (masks lanes) samples

  pub serve-faulted : {out : List ℕ} → flag (at ys FAULTED) ≡ true → out ≡ event_slots 3 → Serves served b b xs ys out
  unfolding load service_core
  serve-faulted {out} f o =
      let fault = sym (ap (λ (k : Bank). k.core.frame.faulted) m.loads) ∙ f in
      let s : Skips (λ (c : Core). skipped Service.faulted [] (clear_request_sent c)) xs ys out = record { moves = m; told = o } in
      serves-as (serves-skipped s) (on _ _ fault refl)

  module _ (f : flag (at ys FAULTED) ≡ false) (expired : Bool) (e : expired ≡ demand_expired now (load ys).core.demand) {zs : List ℕ} (l : Moves (on_core (expire_lease 4 expired)) ys zs) where
    fault : (clear_request_sent (load xs).core).frame.faulted ≡ false
    unfolding load
    fault = sym (ap (λ (k : Bank). k.core.frame.faulted) m.loads) ∙ f

    -- whether the lease has expired, from the bank before
    ran_out : expired ≡ demand_expired now (clear_request_sent (load xs).core).demand
    ran_out = e ∙ ap (λ (k : Bank). demand_expired now k.core.demand) m.loads

    -- the core after both steps
    abbrev leased : Bool → Core
    leased x = expire_lease 4 x (clear_request_sent (load xs).core)

    in-flight : {t : Bool} → flag (at zs BUSY) ≡ t → (leased (demand_expired now (clear_request_sent (load xs).core).demand)).frame.busy ≡ t
    unfolding load
    in-flight t = sym (ap (λ (k : Bank). k.core.frame.busy) (l.loads ∙ ap (on_core (expire_lease 4 expired)) m.loads) ∙ ap (λ (x : Bool). (leased x).frame.busy) ran_out) ∙ t

    pub serve-skips : {ws out : List ℕ} → flag (at zs BUSY) ≡ true → Skips (service_busy 4 now expired) zs ws out → Serves served b b xs ws out
    unfolding service_core
    serve-skips t s =
        serves-as (serves-after (λ k. lease-marks expired k.core) (moves-then m l) (serves-skipped s))
        (ap (λ (x : Bool). keeping (service_busy 4 now x) (record { core = leased x; replies = (load xs).replies }) b) ran_out ∙ off _ _ fault (on _ _ (in-flight t) refl))

    pub serve-sends : {b' : Buffers} {us ws out : List ℕ} → flag (at zs BUSY) ≡ false → Moves (windows_read (present lanes) (masks lanes) samples) zs us
        → Serves (λ (k : Bank) (b : Buffers). sending 4 now (taken lanes) [] [] [] [] b expired k.core k.replies) b b' us ws out → Serves served b b' xs ws out
    unfolding service_core
    serve-sends t r s =
        serves-as (serves-after
        (λ k. read-marks (expire_lease 4 expired (clear_request_sent k.core)) ∙ lease-marks expired k.core)
        (moves-then m (moves-then l r)) s)
        (ap (λ (x : Bool). sending 4 now (taken lanes) [] [] [] [] b x (replies_read (leased x)) (read_replies 4 (leased x).frame.replies_waiting (present lanes) (masks lanes) samples (load xs).replies)) ran_out
        ∙ off _ _ fault (off _ _ (in-flight t) refl))

-- ---- the call

module _ (now : ℕ) (lanes samples first second xs out : List ℕ) where
  abbrev call : Call
  call = service_call now (taken lanes) (present lanes) (masks lanes) samples

  abbrev lent : Buffers
  lent = record { first = first; second = second }

  abbrev before : State
  before = state_at xs lent

  -- whether the two other slices have their lengths
  abbrev others : Bool
  others = if sized 12 lanes then sized 15 out else false

  abbrev fits : Bool
  fits = fit xs others

  -- the call's three promises
  abbrev Answers : (ys told first' second' : List ℕ) → ℕ → Type 0
  Answers ys told first' second' r =
      Called fits call lent xs ys r
      × ((◌≡◌ {A = Buffers} (record { first = first'; second = second' }) (buffers_after fits before call))
      × (told ≡ out_after (answer_of fits before call) out))

  unfit : fits ≡ false → Answers xs out first second 13
  unfit e = (called-unfit xs e, (sym (buffers-unfit call before e), out-kept 13 out (answer-unfit call before e) (λ z. omega arith)))

  -- a state of another length
  pub call-unfit : (length xs ≡ slots → ⊥) → Answers xs out first second 13
  call-unfit h = unfit (state-short xs others h)

  module _ (n : length xs ≡ slots) where
    -- what the hardware answered, of another length
    pub call-lanes : (length lanes ≡ 12 → ⊥) → Answers xs out first second 13
    call-lanes h = unfit (other-short xs others n (sym (off _ _ (ne_eqb (length lanes) 12 h) refl)))

    module _ (l : length lanes ≡ 12) where
      -- an answer of another length
      pub call-short : (length out ≡ 15 → ⊥) → Answers xs out first second 13
      call-short h = unfit (other-short xs others n (sym (on _ _ (eq-eqb (length lanes) 12 l) (sym (ne_eqb (length out) 15 h)))))

      module _ (o : length out ≡ 15) where
        fitting : fits ≡ true
        fitting = state-fits xs others n ∙ sym (on _ _ (eq-eqb (length lanes) 12 l) (sym (eq-eqb (length out) 15 o)))

        -- whether the buffers and the captures have their lengths
        abbrev lengths : Bool
        lengths = service_fits 4 (length first) (length second) (length samples)

        stepped : {t : Bool} → lengths ≡ t → step 4 before call ≡ refuse_or before (length_refusal t 0) (act 4 before call)
        unfolding step port_refusal
        stepped e = ap (λ (t : Bool). refuse_or before (length_refusal t 0) (act 4 before call)) e

        pub call-refused : lengths ≡ false → Answers xs out first second 13
        call-refused h =
            let a : (step 4 before call).answer ≡ refused 13 = ap (λ (r : Stepped). r.answer) (stepped h) in
            let b : buffers_after fits before call ≡ lent = buffers-fits call before fitting ∙ ap (λ (r : Stepped). r.state.buffers) (stepped h) in
            (called-refused xs fitting a, (sym b, out-kept 13 out (answer-fits call before fitting ∙ a) (λ z. omega arith)))

        pub call-done : {ys told first' second' : List ℕ} → lengths ≡ true
            → Serves (service 4 now (taken lanes) (present lanes) (masks lanes) samples) lent (record { first = first'; second = second' }) xs ys told → Answers ys told first' second' 0
        call-done h s =
            let m = moves-as s.moves (sym (ap (λ (r : Stepped). r.state.bank) (stepped h))) in
            let b = s.buffers ∙ sym (buffers-fits call before fitting ∙ ap (λ (r : Stepped). r.state.buffers) (stepped h)) in
            let o = out-filled out (answer-fits call before fitting ∙ ap (λ (r : Stepped). r.answer) (stepped h)) refl s.told in
            (called-done xs fitting (sym (ap (λ (r : Stepped). number r.answer) (stepped h))) m, (b, o))
