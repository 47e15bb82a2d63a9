-- What each call that makes a bank or commands it promises, if it refuses and if it takes its step.
-- Assumes nothing.
use mathlib.Core.Path.{◌≡◌, ◌∙◌, refl, sym, ap}
use mathlib.Core.Bool.{Bool, true, false, not}
use mathlib.Core.List.{List, [], ◌∷◌}
use Prim.Native.Nat.{ℕ, ◌+◌, ◌<◌, ◌≤◌}
use lib.Dec.{ltb}
use lib.ListN.{length, replicate}
use borrow.Author.Tests.{eq-eqb, ne_eqb, lt-ltb, le-ltb}
use Rattle.dshot_reply_spec.specs.Answer.{pick, given}
use Rattle.dshot_reply_spec.specs.Answer as Reply
use Rattle.dshot_bank_spec.specs.Lanes.{any}
use Rattle.dshot_bank_spec.specs.State.{Core, Buffers}
use Rattle.dshot_reply_spec.specs.Refusals.{no_such_motor}
use Rattle.dshot_bank_spec.specs.Commands.{from_lanes, enable_bidirectional, is_running, command_stop, command_throttles, command_special, request_telemetry, cancel_telemetry_request, clear_request_sent}
use Rattle.dshot_bank_spec.specs.Calls.{Call, enable_bidirectional_call, command_stop_call, command_throttles_call, command_special_call, request_telemetry_call, cancel_telemetry_request_call, take_telemetry_request_sent, refused, motor_sent, State, Stepped, told, commanded, act}
use Rattle.dshot_bank_spec.specs.Steps.{lane_refusal, port_refusal, refuse_or, step}
use Rattle.dshot_bank_spec.proofs.LaneLaws.{on, off}
use Rattle.bank_slots_spec.specs.Memory.{◌holds◌, at, write}
use Rattle.bank_slots_spec.specs.Places.{slots, REQUEST, REQUEST_SENT, RUN, FAULTED, BIDIRECTIONAL}
use Rattle.bank_slots_spec.specs.Load.{flag, choice, timing_at, load}
use Rattle.bank_slots_spec.specs.Store.{store}
use Rattle.bank_slots_spec.specs.Moves.{Moves, on_core}
use Rattle.bank_slots_spec.specs.Called.{Called, fit, sized, number, state_at, answer_of}
use Rattle.bank_slots_spec.specs.Outs.{motor_slots, out_after}
use Rattle.bank_slots_spec.specs.Arguments.{run_given}
use Rattle.bank_slots_spec.specs.Parts.{demanded, queued}
use Rattle.bank_slots_spec.proofs.MoveLaws.{moves-as}
use Rattle.bank_slots_spec.proofs.CalledLaws.{state-fits, other-short, answer-fits, called-refused, called-done, out-filled}
use Rattle.bank_slots_spec.proofs.CommandMoves.{new_rows, new-bank, bidirectional-set, requested, some-kept, none_kept}

-- ---- lengths

-- another slice of another length
pub other-long : (xs ys : List ℕ) (k : ℕ) → length xs ≡ slots → (length ys ≡ k → ⊥) → fit xs (sized k ys) ≡ false
other-long xs ys k n h = other-short xs (sized k ys) n (ne_eqb _ _ h)

pub both-fit : (xs ys : List ℕ) (k : ℕ) → length xs ≡ slots → length ys ≡ k → fit xs (sized k ys) ≡ true
both-fit xs ys k n h = state-fits xs (sized k ys) n ∙ eq-eqb _ _ h

-- ---- a new bank

module _ (xs t : List ℕ) where
  -- what is answered, and the slots after it
  abbrev Made : ℕ → List ℕ → Type 0
  Made r ys = (r ≡ pick (fit xs (sized 4 t)) 0 13) × (ys ≡ pick (fit xs (sized 4 t)) (store (from_lanes 4 (timing_at (at t)))) xs)

  pub not_made : fit xs (sized 4 t) ≡ false → Made 13 xs
  not_made e = (off _ _ e refl, off _ _ e refl)

  pub made : {zs : List ℕ} → length xs ≡ slots → length t ≡ 4 → zs ≡ replicate slots 0 → Made 0 (write (new_rows t) zs)
  made n l e =
      let f = both-fit xs t 4 n l in
      (on _ _ f refl, on _ _ f (ap (write (new_rows t)) e ∙ new-bank t))

-- ---- calls that answer with a core or an error

module _ {fits : Bool} (xs : List ℕ) (b : Buffers) {call : Call} (answer : Reply.Answer Core) (acts : step 4 (state_at xs b) call ≡ commanded (state_at xs b) answer) (e : fits ≡ true) where
  refused-so : {k : ℕ} → Reply.refused k ≡ answer → Called fits call b xs xs k
  refused-so q = called-refused xs e (ap (λ (s : Stepped). s.answer) (acts ∙ sym (ap (commanded (state_at xs b)) q)))

  given_so : {ys : List ℕ} (f : Core → Core) → given (f (load xs).core) ≡ answer → Moves (on_core f) xs ys → Called fits call b xs ys 0
  given_so f q m =
      let s = acts ∙ sym (ap (commanded (state_at xs b)) q) in
      called-done xs e (sym (ap (λ (r : Stepped). number r.answer) s)) (moves-as m (sym (ap (λ (r : Stepped). r.state.bank) s)))

-- what the port refuses, and what it does not
module _ (s : State) (call : ℕ → Call) (refuses : (i : ℕ) → port_refusal 4 s (call i) ≡ lane_refusal 4 i) (i : ℕ) where
  pub lane-found : i < 4 → step 4 s (call i) ≡ act 4 s (call i)
  unfolding step
  lane-found h = ap (λ (k : ℕ). refuse_or s k (act 4 s (call i))) (refuses i ∙ sym (on _ _ (lt-ltb i 4 h) refl))

  pub lane-missing : 4 ≤ i → step 4 s (call i) ≡ told s (refused no_such_motor)
  unfolding step
  lane-missing h = ap (λ (k : ℕ). refuse_or s k (act 4 s (call i))) (refuses i ∙ sym (off _ _ (le-ltb i 4 h) refl))

module _ (xs : List ℕ) (b : Buffers) (n : length xs ≡ slots) where
  -- ---- enable_bidirectional

  pub enable-refused : (receives : Bool) → not receives ≡ true → Called (fit xs true) (enable_bidirectional_call receives) b xs xs 22
  unfolding step port_refusal enable_bidirectional
  enable-refused receives h = refused-so xs b _ refl (state-fits xs true n) (on _ _ h refl)

  pub enabled : (receives : Bool) → not receives ≡ false → Called (fit xs true) (enable_bidirectional_call receives) b xs (write ((BIDIRECTIONAL holds 1) ∷ []) xs) 0
  unfolding step port_refusal enable_bidirectional
  enabled receives h = given_so xs b _ refl (state-fits xs true n) _ (off _ _ h refl) (bidirectional-set xs n)

  -- ---- command_stop

  pub stop-done : {ys : List ℕ} → Moves (on_core (command_stop 4)) xs ys → Called (fit xs true) command_stop_call b xs ys 0
  unfolding step port_refusal
  stop-done m = called-done xs (state-fits xs true n) refl m

  -- ---- command_throttles

  module _ (commands : List ℕ) (now d : ℕ) (l : length commands ≡ 4) where
    abbrev ThrottlesCalled : List ℕ → ℕ → Type 0
    ThrottlesCalled ys r = Called (fit xs (sized 4 commands)) (command_throttles_call commands now d) b xs ys r

    throttles-fit : fit xs (sized 4 commands) ≡ true
    throttles-fit = both-fit xs commands 4 n l

    throttles-act : step 4 (state_at xs b) (command_throttles_call commands now d) ≡ commanded (state_at xs b) (command_throttles 4 commands now d (load xs).core)
    unfolding step port_refusal
    throttles-act = refl

    pub throttles-faulted : flag (at xs FAULTED) ≡ true → ThrottlesCalled xs 18
    unfolding load command_throttles
    throttles-faulted f = refused-so xs b _ throttles-act throttles-fit (on _ _ f refl)

    pub throttles-high : flag (at xs FAULTED) ≡ false → any (ltb 2000) commands ≡ true → ThrottlesCalled xs 6
    unfolding load command_throttles
    throttles-high f h = refused-so xs b _ throttles-act throttles-fit (off _ _ f (on _ _ h refl))

    pub throttles-stop : {ys : List ℕ} → flag (at xs FAULTED) ≡ false → any (ltb 2000) commands ≡ false → not (any (ltb 0) commands) ≡ true
        → Moves (on_core (command_stop 4)) xs ys → ThrottlesCalled ys 0
    unfolding load command_throttles
    throttles-stop f h z m = given_so xs b _ throttles-act throttles-fit (command_stop 4) (off _ _ f (off _ _ h (on _ _ z refl))) m

    pub throttled : {ys : List ℕ} → flag (at xs FAULTED) ≡ false → any (ltb 2000) commands ≡ false → not (any (ltb 0) commands) ≡ false
        → Moves (on_core (demanded commands now d)) xs ys → ThrottlesCalled ys 0
    unfolding load command_throttles
    throttled f h z m = given_so xs b _ throttles-act throttles-fit (demanded commands now d) (off _ _ f (off _ _ h (off _ _ z refl))) m

  -- ---- command_special

  module _ (motor : ℕ) (s : List ℕ) (l : length s ≡ 4) where
    abbrev SpecialCalled : List ℕ → ℕ → Type 0
    SpecialCalled ys r = Called (fit xs (sized 4 s)) (command_special_call motor (run_given s)) b xs ys r

    run_fits : fit xs (sized 4 s) ≡ true
    run_fits = both-fit xs s 4 n l

    pub special-missing : 4 ≤ motor → SpecialCalled xs 12
    unfolding port_refusal
    special-missing h = called-refused xs run_fits (ap (λ (r : Stepped). r.answer) (lane-missing (state_at xs b) (λ (i : ℕ). command_special_call i (run_given s)) (λ i. refl) motor h))

    module _ (h : motor < 4) where
      special-acts : step 4 (state_at xs b) (command_special_call motor (run_given s)) ≡ commanded (state_at xs b) (command_special motor (run_given s) (load xs).core)
      unfolding port_refusal
      special-acts = lane-found (state_at xs b) (λ (i : ℕ). command_special_call i (run_given s)) (λ i. refl) motor h

      pub special-faulted : flag (at xs FAULTED) ≡ true → SpecialCalled xs 18
      unfolding load command_special
      special-faulted f = refused-so xs b _ special-acts run_fits (on _ _ f refl)

      pub special-running : flag (at xs FAULTED) ≡ false → is_running (load xs).core.demand ≡ true → SpecialCalled xs 19
      unfolding load command_special
      special-running f r = refused-so xs b _ special-acts run_fits (off _ _ f (on _ _ r refl))

      pub special-pending : flag (at xs FAULTED) ≡ false → is_running (load xs).core.demand ≡ false → (at xs RUN ≡ 0 → ⊥) → SpecialCalled xs 20
      unfolding load command_special
      special-pending f r p = refused-so xs b _ special-acts run_fits (off _ _ f (off _ _ r (on _ _ (some-kept (at xs RUN) _ p) refl)))

      pub special-queued : {ys : List ℕ} → flag (at xs FAULTED) ≡ false → is_running (load xs).core.demand ≡ false → at xs RUN ≡ 0
          → Moves (on_core (queued motor (run_given s))) xs ys → SpecialCalled ys 0
      unfolding load command_special
      special-queued f r p m = given_so xs b _ special-acts run_fits (queued motor (run_given s)) (off _ _ f (off _ _ r (off _ _ (none_kept (at xs RUN) _ p) refl))) m

  -- ---- request_telemetry

  module _ (motor : ℕ) where
    abbrev RequestCalled : List ℕ → ℕ → Type 0
    RequestCalled ys r = Called (fit xs true) (request_telemetry_call motor) b xs ys r

    pub request-missing : 4 ≤ motor → RequestCalled xs 12
    unfolding port_refusal
    request-missing h = called-refused xs (state-fits xs true n) (ap (λ (r : Stepped). r.answer) (lane-missing (state_at xs b) request_telemetry_call (λ i. refl) motor h))

    module _ (h : motor < 4) where
      request-acts : step 4 (state_at xs b) (request_telemetry_call motor) ≡ commanded (state_at xs b) (request_telemetry motor (load xs).core)
      unfolding port_refusal
      request-acts = lane-found (state_at xs b) request_telemetry_call (λ i. refl) motor h

      pub request-faulted : flag (at xs FAULTED) ≡ true → RequestCalled xs 18
      unfolding load request_telemetry
      request-faulted f = refused-so xs b _ request-acts (state-fits xs true n) (on _ _ f refl)

      pub request-pending : flag (at xs FAULTED) ≡ false → (at xs REQUEST ≡ 0 → ⊥) → RequestCalled xs 21
      unfolding load request_telemetry
      request-pending f p = refused-so xs b _ request-acts (state-fits xs true n) (off _ _ f (on _ _ (some-kept (at xs REQUEST) _ p) refl))

      pub request-taken : flag (at xs FAULTED) ≡ false → at xs REQUEST ≡ 0 → RequestCalled (write ((REQUEST holds motor + 1) ∷ []) xs) 0
      unfolding load request_telemetry
      request-taken f p = given_so xs b _ request-acts (state-fits xs true n) _ (off _ _ f (off _ _ (none_kept (at xs REQUEST) _ p) refl)) (requested xs n motor h)

  -- ---- cancel_telemetry_request

  pub cancel-done : {ys : List ℕ} → Moves (on_core cancel_telemetry_request) xs ys → Called (fit xs true) cancel_telemetry_request_call b xs ys 0
  unfolding step port_refusal
  cancel-done m = called-done xs (state-fits xs true n) refl m

  -- ---- take_telemetry_request_sent

  module _ (out : List ℕ) (l : length out ≡ 2) where
    out-fits : fit xs (sized 2 out) ≡ true
    out-fits = both-fit xs out 2 n l

    pub sent-taken : {ys : List ℕ} → Moves (on_core clear_request_sent) xs ys → Called (fit xs (sized 2 out)) take_telemetry_request_sent b xs ys 0
    unfolding step port_refusal
    sent-taken m = called-done xs out-fits refl m

    pub sent-told : {after : List ℕ} → after ≡ motor_slots (choice (at xs REQUEST_SENT)) → after ≡ out_after (answer_of (fit xs (sized 2 out)) (state_at xs b) take_telemetry_request_sent) out
    unfolding step port_refusal load
    sent-told e = out-filled {a' = motor_sent (choice (at xs REQUEST_SENT))} out (answer-fits take_telemetry_request_sent (state_at xs b) out-fits) refl e
