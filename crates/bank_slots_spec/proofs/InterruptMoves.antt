-- What the steps of an interrupt write, and what that does to the bank in the slots.
-- Assumes nothing.
use Rattle.std.specs.Prelude.{if◌then◌else◌}
use mathlib.Core.Path.{◌≡◌, ◌∙◌, refl, sym, ap}
use mathlib.Core.Bool.{Bool, true, false, not}
use mathlib.Core.List.{List, [], ◌∷◌}
use Prim.Native.Nat.{ℕ, ◌+◌, ◌*◌, ◌<◌, ◌≤◌}
use native.Mathlib.Omega.{arith}
use lib.Bits.{bit_and, bit_or}
use lib.Dec.{eqb}
use lib.ListN.{length}
use borrow.Author.Tests.{eq-eqb, ne_eqb}
use Rattle.dshot_reply_spec.specs.Answer.{pick}
use Rattle.dshot_spec.specs.Tabulate.{tabulate}
use Rattle.dshot_bank_spec.specs.State.{Stats, Core, Bank, Buffers}
use Rattle.dshot_bank_spec.specs.With.{with_completion_mask, with_busy, with_receiving, with_replies_waiting, with_frames_completed, with_frame, with_stats, with_core}
use Rattle.dshot_bank_spec.specs.Order.{Order, stop_frame, begin_receive, end_receive}
use Rattle.dshot_bank_spec.specs.OrderNumber.{code}
use Rattle.dshot_bank_spec.specs.Send.{latch_fault}
use Rattle.dshot_bank_spec.specs.Interrupt.{InterruptEvent, completed, faulted, spurious, Interrupted, completion_bit, is_complete, count_completion, lane_done, frame_done, window_opened, window_closed, opens_window, interrupted, latched, after_lane, on_dma_interrupt}
use Rattle.dshot_bank_spec.specs.Calls.{Call, on_dma_interrupt_call, refused, State, Stepped, told, act}
use Rattle.dshot_bank_spec.specs.Steps.{port_refusal, step}
use Rattle.dshot_bank_spec.proofs.LaneLaws.{on, off}
use Rattle.bank_slots_spec.specs.Memory.{◌holds◌, at, write, word, word_rows}
use Rattle.bank_slots_spec.specs.Places.{slots, BUSY, FAULTED, RECEIVING, REPLIES_WAITING, COMPLETION_MASK, FRAMES_COMPLETED, LANE_COMPLETIONS}
use Rattle.bank_slots_spec.specs.Load.{bank_at, load, flag}
use Rattle.bank_slots_spec.specs.Moves.{Moves, on_core}
use Rattle.bank_slots_spec.specs.Parts.{bumped}
use Rattle.bank_slots_spec.specs.Called.{Called, fit, sized, number, state_at, answer_of}
use Rattle.bank_slots_spec.specs.Outs.{interrupt_event, interrupt_slots, out_after}
use Rattle.bank_slots_spec.specs.Handles.{Handles}
use Rattle.bank_slots_spec.proofs.MemoryLaws.{length-write, word_back}
use Rattle.bank_slots_spec.proofs.MoveLaws.{moves-write, moves-then, moves-as, moves-at, stays, counted}
use Rattle.bank_slots_spec.proofs.FaultMoves.{core_pick, twice, bumped-if}
use Rattle.bank_slots_spec.proofs.CommandCalls.{lane-found, lane-missing}
use Rattle.bank_slots_spec.proofs.CalledLaws.{state-short, state-fits, other-short, answer-unfit, answer-fits, called-unfit, called-refused, called-done, out-kept, out-filled}
use Rattle.bank_slots_spec.proofs.Counted.{lane-counted}

-- ---- a frame set and its window

abbrev busy_cleared : Core → Core
busy_cleared c = with_frame (with_busy false c.frame) c

abbrev replied : Core → Core
replied c = with_frame (with_replies_waiting true (with_receiving false c.frame)) c

module _ (xs : List ℕ) (n : length xs ≡ slots) where
  pub frame-done : Moves (on_core frame_done) xs (bumped FRAMES_COMPLETED (write ((BUSY holds 0) ∷ []) xs))
  unfolding frame_done
  frame-done =
      let ys = write ((BUSY holds 0) ∷ []) xs in
      let one : Moves (on_core busy_cleared) xs ys = moves-write ((BUSY holds 0) ∷ []) xs n refl refl (λ w. ((refl, w.0.1, w.0.2, w.0.3, w.0.4, w.0.5), w.1)) in
      moves-as (moves-then one (counted ys (length-write ((BUSY holds 0) ∷ []) xs ∙ n) FRAMES_COMPLETED with_frames_completed (λ (s : Stats). s.frames_completed) refl (λ v. refl) refl (λ w. w))) refl

  pub window-opened : Moves (on_core window_opened) xs (write ((RECEIVING holds 1) ∷ word_rows COMPLETION_MASK 0) xs)
  unfolding window_opened
  window-opened = moves-write ((RECEIVING holds 1) ∷ word_rows COMPLETION_MASK 0) xs n refl refl (λ w. ((w.0.0, w.0.1, w.0.2, refl, w.0.4, w.0.5), w.1))

  window-replied : Moves (on_core replied) xs (write ((RECEIVING holds 0) ∷ (REPLIES_WAITING holds 1) ∷ []) xs)
  window-replied = moves-write ((RECEIVING holds 0) ∷ (REPLIES_WAITING holds 1) ∷ []) xs n refl refl (λ w. ((w.0.0, w.0.1, w.0.2, refl, refl, w.0.5), w.1))

  pub window-closed : {ys : List ℕ} → Moves (on_core frame_done) (write ((RECEIVING holds 0) ∷ (REPLIES_WAITING holds 1) ∷ []) xs) ys → Moves (on_core window_closed) xs ys
  unfolding window_closed
  window-closed m = moves-as (moves-then window-replied m) refl

-- ---- a lane that has completed

abbrev mask_set : ℕ → Core → Core
mask_set v c = with_frame (with_completion_mask v c.frame) c

abbrev lane_counted : ℕ → Core → Core
lane_counted lane c = with_stats (count_completion lane c.stats) c

mask-set : (xs : List ℕ) → length xs ≡ slots → (v : ℕ) → Moves (on_core (mask_set v)) xs (write (word_rows COMPLETION_MASK v) xs)
mask-set xs n v = moves-write (word_rows COMPLETION_MASK v) xs n refl (λ j. on_core (mask_set (word_back v j)) (bank_at (at xs))) (λ w. w)

-- a window of samples is not counted
counts-sent : (lane : ℕ) (receiving : Bool) (c : Core) → c.frame.receiving ≡ receiving
    → core_pick (not receiving) (lane_counted lane) c ≡ with_stats (if c.frame.receiving then c.stats else count_completion lane c.stats) c
counts-sent lane true c e = ap (λ (r : Bool). with_stats (if r then c.stats else count_completion lane c.stats) c) (sym e)
counts-sent lane false c e = ap (λ (r : Bool). with_stats (if r then c.stats else count_completion lane c.stats) c) (sym e)

module _ (xs ys zs : List ℕ) (n : length xs ≡ slots) where
  pub lane_done-moves : (lane mask : ℕ) (sent : Bool) → lane < 4 → mask ≡ bit_or (word COMPLETION_MASK (at xs)) (completion_bit lane)
      → ys ≡ write (word_rows COMPLETION_MASK mask) xs → sent ≡ eqb (at ys RECEIVING) 0
      → zs ≡ pick sent (bumped (LANE_COMPLETIONS + 2 * lane) ys) ys → Moves (on_core (lane_done lane)) xs zs
  unfolding load lane_done
  lane_done-moves lane mask sent h e q t r =
      let l : length ys ≡ slots = ap length q ∙ length-write (word_rows COMPLETION_MASK mask) xs ∙ n in
      let one : Moves (on_core (mask_set mask)) xs ys = moves-at (sym q) (mask-set xs n mask) in
      let two : Moves (on_core (core_pick sent (lane_counted lane))) ys zs = moves-at (sym r) (bumped-if (lane_counted lane) sent (LANE_COMPLETIONS + 2 * lane) ys (lane-counted ys lane l h)) in
      let s : sent ≡ not (load xs).core.frame.receiving = t ∙ sym (twice (eqb (at ys RECEIVING) 0)) ∙ ap (λ (b : Bank). not b.core.frame.receiving) one.loads in
      moves-as (moves-then one two)
      (ap (λ (b : Bool). on_core (λ (c : Core). core_pick b (lane_counted lane) (mask_set mask c)) (load xs)) s
      ∙ ap (λ (c : Core). with_core c (load xs)) (counts-sent lane (load xs).core.frame.receiving (mask_set mask (load xs).core) refl)
      ∙ ap (λ (v : ℕ). on_core (λ (c : Core). with_stats (if c.frame.receiving then c.stats else count_completion lane c.stats) (mask_set v c)) (load xs)) e)

-- ---- what an interrupt does and answers

-- another name of the interrupt, at the core that it starts from
pub handles-as : {f g : Core → Interrupted} {xs ys out : List ℕ} → Handles f xs ys out → f (load xs).core ≡ g (load xs).core → Handles g xs ys out
handles-as {f} {g} {xs} h e = record {
  moves = moves-as h.moves (ap (λ (i : Interrupted). with_core i.core (load xs)) e);
  told = h.told ∙ ap (λ (i : Interrupted). interrupt_slots i.event i.orders) e;
}

-- after a step on the core
handles-after : {f : Core → Interrupted} {g : Core → Core} {xs ys zs out : List ℕ} → Moves (on_core g) xs ys → Handles f ys zs out → Handles (λ (c : Core). f (g c)) xs zs out
handles-after {f} m h = record {
  moves = moves-as (moves-then m h.moves) refl;
  told = h.told ∙ ap (λ (b : Bank). interrupt_slots (f b.core).event (f b.core).orders) m.loads;
}

module _ (lane : ℕ) where
  -- What is answered: only the lane's pause, the pause with one order for all lanes, with the orders of a latched fault, or with both.
  abbrev paused_slots : ℕ → List ℕ
  paused_slots event = event ∷ 1 ∷ (48 + lane) ∷ 0 ∷ 0 ∷ 0 ∷ 0 ∷ 0 ∷ 0 ∷ []

  abbrev order_slots : ℕ → List ℕ
  order_slots order = 0 ∷ 2 ∷ (48 + lane) ∷ order ∷ 0 ∷ 0 ∷ 0 ∷ 0 ∷ 0 ∷ []

  abbrev latched_slots : ℕ → List ℕ
  latched_slots event = event ∷ 6 ∷ (48 + lane) ∷ 40 ∷ 48 ∷ 49 ∷ 50 ∷ 51 ∷ 0 ∷ []

  abbrev turning_slots : ℕ → List ℕ
  turning_slots order = 1 ∷ 7 ∷ (48 + lane) ∷ order ∷ 40 ∷ 48 ∷ 49 ∷ 50 ∷ 51 ∷ []

  abbrev paused : InterruptEvent → List Order → Core → Interrupted
  paused = interrupted 4 lane true false true true

  handles-paused : {xs out : List ℕ} (e : InterruptEvent) → out ≡ paused_slots (interrupt_event e) → Handles (paused e []) xs xs out
  handles-paused e t = record { moves = stays refl; told = t }

  handles-order : {xs ys out : List ℕ} {f : Core → Core} (o : Order) → Moves (on_core f) xs ys → out ≡ order_slots (code o) → Handles (λ (c : Core). paused completed (o ∷ []) (f c)) xs ys out
  handles-order o m t = record { moves = m; told = t }

  pub handles-latched : {xs ys out : List ℕ} (is_spurious : Bool) {event : ℕ} → Moves (on_core (latch_fault 4 is_spurious)) xs ys → out ≡ latched_slots event
      → (e : InterruptEvent) → interrupt_event e ≡ event → Handles (latched 4 lane true false true true is_spurious e []) xs ys out
  unfolding tabulate
  handles-latched is_spurious m t e q = record { moves = m; told = t ∙ ap latched_slots (sym q) }

  pub handles-turning : {xs ys out : List ℕ} (o : Order) {order : ℕ} → Moves (on_core (latch_fault 4 false)) xs ys → out ≡ turning_slots order
      → order ≡ code o → Handles (latched 4 lane true false true true false faulted (o ∷ [])) xs ys out
  unfolding tabulate
  handles-turning o m t q = record { moves = m; told = t ∙ ap turning_slots q }

-- ---- after a lane

-- a test from its opposite
from-opposite : (b : Bool) {r : Bool} → not b ≡ r → b ≡ not r
from-opposite b h = sym (twice b) ∙ ap not h

-- every lane has completed
all-complete : (mask : ℕ) → mask ≡ 15 → not (eqb mask 15) ≡ false
all-complete mask h = ap not (eq-eqb mask 15 h)

module _ (lane : ℕ) (turned back : Bool) {xs out : List ℕ} where
  pub after-some : (word COMPLETION_MASK (at xs) ≡ 15 → ⊥) → out ≡ paused_slots lane 0 → Handles (after_lane 4 lane true false turned back) xs xs out
  unfolding load after_lane
  after-some h t = handles-as (handles-paused lane completed t) (on _ _ (ap not (ne_eqb _ 15 h)) refl)

  pub after-opened : {ys : List ℕ} → word COMPLETION_MASK (at xs) ≡ 15 → opens_window (load xs).core.frame ≡ true → not turned ≡ false
      → Moves (on_core window_opened) xs ys → out ≡ order_slots lane 56 → Handles (after_lane 4 lane true false turned back) xs ys out
  unfolding load after_lane
  after-opened h o r m t = handles-as (handles-order lane begin_receive m t) (off _ _ (all-complete _ h) (on _ _ o (on _ _ (from-opposite turned r) refl)))

  pub after-not-opened : {ys : List ℕ} → word COMPLETION_MASK (at xs) ≡ 15 → opens_window (load xs).core.frame ≡ true → not turned ≡ true
      → Handles (latched 4 lane true false true true false faulted (begin_receive ∷ [])) xs ys out → Handles (after_lane 4 lane true false turned back) xs ys out
  unfolding load after_lane
  after-not-opened h o r m = handles-as m (off _ _ (all-complete _ h) (on _ _ o (off _ _ (from-opposite turned r) refl)))

  pub after-closed : {ys : List ℕ} → word COMPLETION_MASK (at xs) ≡ 15 → opens_window (load xs).core.frame ≡ false → flag (at xs RECEIVING) ≡ true → not back ≡ false
      → Moves (on_core window_closed) xs ys → out ≡ order_slots lane 64 → Handles (after_lane 4 lane true false turned back) xs ys out
  unfolding load after_lane
  after-closed h o r b m t = handles-as (handles-order lane end_receive m t) (off _ _ (all-complete _ h) (off _ _ o (on _ _ r (on _ _ (from-opposite back b) refl))))

  pub after-not-closed : {ys : List ℕ} → word COMPLETION_MASK (at xs) ≡ 15 → opens_window (load xs).core.frame ≡ false → flag (at xs RECEIVING) ≡ true → not back ≡ true
      → Handles (latched 4 lane true false true true false faulted (end_receive ∷ [])) xs ys out → Handles (after_lane 4 lane true false turned back) xs ys out
  unfolding load after_lane
  after-not-closed h o r b m = handles-as m (off _ _ (all-complete _ h) (off _ _ o (on _ _ r (off _ _ (from-opposite back b) refl))))

  pub after-sent : {ys : List ℕ} → word COMPLETION_MASK (at xs) ≡ 15 → opens_window (load xs).core.frame ≡ false → flag (at xs RECEIVING) ≡ false
      → Moves (on_core frame_done) xs ys → out ≡ order_slots lane 32 → Handles (after_lane 4 lane true false turned back) xs ys out
  unfolding load after_lane
  after-sent h o r m t = handles-as (handles-order lane stop_frame m t) (off _ _ (all-complete _ h) (off _ _ o (off _ _ r refl)))

-- ---- an interrupt

-- whether a lane's bit is in the mask
bit-there : (mask bit motor : ℕ) → bit ≡ completion_bit motor → (bit_and mask bit ≡ 0 → ⊥) → is_complete motor mask ≡ true
bit-there mask bit motor e h = ap (λ (b : ℕ). not (eqb (bit_and mask b) 0)) (sym e) ∙ ap not (ne_eqb (bit_and mask bit) 0 h)

bit-missing : (mask bit motor : ℕ) → bit ≡ completion_bit motor → bit_and mask bit ≡ 0 → is_complete motor mask ≡ false
bit-missing mask bit motor e h = ap (λ (b : ℕ). not (eqb (bit_and mask b) 0)) (sym e) ∙ ap not (eq-eqb (bit_and mask bit) 0 h)

-- a fault latched right after the lane's pause
abbrev latches : ℕ → Bool → InterruptEvent → Core → Interrupted
latches lane is_spurious e = latched 4 lane true false true true is_spurious e []

module _ (lane : ℕ) (complete error turned back : Bool) {xs out : List ℕ} where
  pub on-faulted : flag (at xs FAULTED) ≡ true → out ≡ paused_slots lane 1 → Handles (on_dma_interrupt 4 lane complete error turned back) xs xs out
  unfolding load on_dma_interrupt
  on-faulted f t = handles-as (handles-paused lane faulted t) (on _ _ f refl)

  module _ {ys : List ℕ} (f : flag (at xs FAULTED) ≡ false) where
    pub on-idle : not (flag (at xs BUSY)) ≡ true → Handles (latches lane true spurious) xs ys out → Handles (on_dma_interrupt 4 lane complete error turned back) xs ys out
    unfolding load on_dma_interrupt
    on-idle b h = handles-as h (off _ _ f (on _ _ b refl))

    module _ (b : not (flag (at xs BUSY)) ≡ false) (bit : ℕ) (e : bit ≡ completion_bit lane) where
      pub on-again : (bit_and (word COMPLETION_MASK (at xs)) bit ≡ 0 → ⊥) → Handles (latches lane true spurious) xs ys out → Handles (on_dma_interrupt 4 lane complete error turned back) xs ys out
      unfolding load on_dma_interrupt
      on-again k h = handles-as h (off _ _ f (off _ _ b (on _ _ (bit-there (word COMPLETION_MASK (at xs)) bit lane e k) refl)))

      module _ (k : bit_and (word COMPLETION_MASK (at xs)) bit ≡ 0) where
        pub on-error : error ≡ true → Handles (latches lane false faulted) xs ys out → Handles (on_dma_interrupt 4 lane complete error turned back) xs ys out
        unfolding load on_dma_interrupt
        on-error r h = handles-as h (off _ _ f (off _ _ b (off _ _ (bit-missing (word COMPLETION_MASK (at xs)) bit lane e k) (on _ _ r refl))))

        pub on-incomplete : error ≡ false → not complete ≡ true → Handles (latches lane true spurious) xs ys out → Handles (on_dma_interrupt 4 lane complete error turned back) xs ys out
        unfolding load on_dma_interrupt
        on-incomplete r d h = handles-as h (off _ _ f (off _ _ b (off _ _ (bit-missing (word COMPLETION_MASK (at xs)) bit lane e k) (off _ _ r (on _ _ d refl)))))

        pub on-complete : {zs : List ℕ} → error ≡ false → not complete ≡ false → Moves (on_core (lane_done lane)) xs zs → Handles (after_lane 4 lane true false turned back) zs ys out
            → Handles (on_dma_interrupt 4 lane complete error turned back) xs ys out
        unfolding load on_dma_interrupt after_lane
        on-complete r d m h = handles-as (handles-after m h) (off _ _ f (off _ _ b (off _ _ (bit-missing (word COMPLETION_MASK (at xs)) bit lane e k) (off _ _ r (off _ _ d refl)))))

-- ---- the call

module _ (motor : ℕ) (complete error turned back : Bool) where
  abbrev call : Call
  call = on_dma_interrupt_call motor complete error turned back

  -- of any lane, as the port tests it
  abbrev at-lane : ℕ → Call
  at-lane i = on_dma_interrupt_call i complete error turned back

  no-lane : (s : State) → 4 ≤ motor → step 4 s call ≡ told s (refused 12)
  unfolding port_refusal
  no-lane s h = lane-missing s at-lane (λ i. refl) motor h

  of-lane : (s : State) → motor < 4 → step 4 s call ≡ act 4 s call
  unfolding port_refusal
  of-lane s h = lane-found s at-lane (λ i. refl) motor h

  -- the call's two promises
  abbrev Answers : (xs ys out told : List ℕ) → ℕ → Type 0
  Answers xs ys out told r =
      ((b : Buffers) → Called (fit xs (sized 9 out)) call b xs ys r)
      × ((b : Buffers) → told ≡ out_after (answer_of (fit xs (sized 9 out)) (state_at xs b) call) out)

  module _ (xs out : List ℕ) where
    unfit : fit xs (sized 9 out) ≡ false → Answers xs xs out out 13
    unfit e = (λ b. called-unfit xs e, λ b. out-kept 13 out (answer-unfit call (state_at xs b) e) (λ z. omega arith))

    -- a state of another length
    pub call-unfit : (length xs ≡ slots → ⊥) → Answers xs xs out out 13
    call-unfit h = unfit (state-short xs (sized 9 out) h)

    module _ (n : length xs ≡ slots) where
      -- an answer of another length
      pub call-short : (length out ≡ 9 → ⊥) → Answers xs xs out out 13
      call-short h = unfit (other-short xs (sized 9 out) n (ne_eqb (length out) 9 h))

      module _ (o : length out ≡ 9) where
        fits : fit xs (sized 9 out) ≡ true
        fits = state-fits xs (sized 9 out) n ∙ eq-eqb (length out) 9 o

        pub call-refused : 4 ≤ motor → Answers xs xs out out 12
        call-refused h =
            let a : (b : Buffers) → (step 4 (state_at xs b) call).answer ≡ refused 12 = λ b. ap (λ (r : Stepped). r.answer) (no-lane (state_at xs b) h) in
            (λ b. called-refused xs fits (a b), λ b. out-kept 12 out (answer-fits call (state_at xs b) fits ∙ a b) (λ z. omega arith))

        pub call-done : {ys zs : List ℕ} → motor < 4 → Handles (on_dma_interrupt 4 motor complete error turned back) xs ys zs → Answers xs ys out zs 0
        call-done l h = (
          λ b. called-done xs fits (sym (ap (λ (r : Stepped). number r.answer) (of-lane (state_at xs b) l))) (moves-as h.moves (sym (ap (λ (r : Stepped). r.state.bank) (of-lane (state_at xs b) l)))),
          λ b. out-filled out (answer-fits call (state_at xs b) fits ∙ ap (λ (r : Stepped). r.answer) (of-lane (state_at xs b) l)) refl h.told,
        )
