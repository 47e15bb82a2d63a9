-- What the calls that only look at the bank in the slots promise, and the taking of its replies. The laws are for a slice of another length, and for
-- slices that all fit.
-- Assumes nothing.
use Rattle.std.specs.Prelude.{if◌then◌else◌}
use mathlib.Core.Path.{◌≡◌, ◌∙◌, refl, sym, ap}
use mathlib.Core.Bool.{Bool, true, false, not}
use mathlib.Core.List.{List, [], ◌∷◌, ◌++◌, append_assoc}
use mathlib.Core.Option.{Option, none, some}
use Prim.Native.Nat.{ℕ, zero, suc, ◌+◌, ◌-◌, ◌*◌, ◌/◌, ◌%◌, ◌<◌, ◌≤◌, zero-le}
use native.Mathlib.Omega.{arith}
use lib.Dec.{eqb}
use lib.ListN.{length, get_or, set, take, drop, length-set}
use lib.Seq.{take_all}
use Rattle.dshot_reply_spec.specs.Answer.{pick, given, refused}
use Rattle.dshot_reply_spec.specs.Refusals.{no_reply}
use Rattle.dshot_reply_spec.specs.Answer as Reply
use Rattle.dshot_reply_spec.specs.Value.{Reading}
use Rattle.dshot_reply_spec.specs.Kind.{kind_number, reading_number}
use Rattle.dshot_spec.specs.Tabulate.{tabulate, part}
use Rattle.dshot_bank_spec.specs.Lanes.{is_some}
use Rattle.dshot_bank_spec.specs.State.{Buffers}
use Rattle.dshot_bank_spec.specs.Calls.{Call, Answer, is_bidirectional, is_faulted, command_pending_call, requested_values_call, stats, reply_stats, take_replies, values, counts, reply_counts, replied, replies_taken, sequence_sent, reply_stats_of, replies_of}
use Rattle.dshot_bank_spec.specs.Steps.{port_refusal, step}
use Rattle.dshot_bank_spec.specs.Calls as Call
use Rattle.bank_slots_spec.specs.Memory.{◌holds◌, at, write, word, word_rows}
use Rattle.bank_slots_spec.specs.Places.{VALUES, RUN, FAULTED, BIDIRECTIONAL, REPLIES_HELD, IN_SECOND, FRAMES_STARTED, FRAMES_COMPLETED, LANE_COMPLETIONS, BUSY_SKIPS, LEASE_EXPIRIES, FRAME_TIMEOUTS, DMA_FAULTS, SPURIOUS, REPLIES}
use Rattle.bank_slots_spec.specs.Load.{flag, REFUSED, is_refused_kind, reply, four, four_lists, stats_at, lane_at, load}
use Rattle.bank_slots_spec.specs.Store.{bit}
use Rattle.bank_slots_spec.specs.Places as Places
use Rattle.bank_slots_spec.specs.Storable.{Below}
use Rattle.bank_slots_spec.specs.Moves.{Moves, on_core}
use Rattle.bank_slots_spec.specs.Called.{Called, fit, sized, number, state_at, answer_of}
use Rattle.bank_slots_spec.specs.Outs.{word_slots, count_slots, reply_count_slots, reply_slots, replies_slots, slots_of, out_after}
use Rattle.bank_slots_spec.specs.Parts.{slot_rows}
use Rattle.bank_slots_spec.proofs.MemoryLaws.{length-write}
use Rattle.bank_slots_spec.proofs.FieldLaws.{word_low, word-high, kind-refused, reply-refused}
use Rattle.bank_slots_spec.proofs.FillLaws.{tabulated, filled-to, filled}
use Rattle.bank_slots_spec.proofs.MoveLaws.{moves-write}
use Rattle.bank_slots_spec.proofs.CalledLaws.{state-short, answer-unfit, answer-fits, called-unfit, called-done, out-kept, out-filled}
use Rattle.bank_slots_spec.proofs.CommandCalls.{other-long, both-fit}

-- ---- any look

module _ (call : Call) (k : ℕ) (xs out : List ℕ) where
  -- with some buffers: what is answered, and what the lent slots hold then
  abbrev pub LooksAt : Buffers → List ℕ → ℕ → Type 0
  LooksAt b after r =
      (r ≡ number (answer_of (fit xs (sized k out)) (state_at xs b) call))
      × (after ≡ out_after (answer_of (fit xs (sized k out)) (state_at xs b) call) out)

  -- with any
  abbrev pub Looks : List ℕ → ℕ → Type 0
  Looks after r =
      ((b : Buffers) → r ≡ number (answer_of (fit xs (sized k out)) (state_at xs b) call))
      × ((b : Buffers) → after ≡ out_after (answer_of (fit xs (sized k out)) (state_at xs b) call) out)

  any-buffers : {after : List ℕ} {r : ℕ} → ((b : Buffers) → LooksAt b after r) → Looks after r
  any-buffers h = (λ b. (h b).0, λ b. (h b).1)

  refuses : (b : Buffers) (n : ℕ) → answer_of (fit xs (sized k out)) (state_at xs b) call ≡ Call.refused n → (n ≡ 0 → ⊥) → LooksAt b out n
  refuses b n e z = (sym (ap number e), out-kept n out e z)

  -- a state of another length
  pub unfit-at : (length xs ≡ Places.slots → ⊥) → (b : Buffers) → LooksAt b out 13
  unfit-at h b = refuses b 13 (answer-unfit call (state_at xs b) (state-short xs (sized k out) h)) (λ z. omega arith)

  pub look-unfit : (length xs ≡ Places.slots → ⊥) → Looks out 13
  look-unfit h = any-buffers (unfit-at h)

  module _ (n : length xs ≡ Places.slots) where
    -- lent slots of another length
    pub short-at : (length out ≡ k → ⊥) → (b : Buffers) → LooksAt b out 13
    short-at h b = refuses b 13 (answer-unfit call (state_at xs b) (other-long xs out k n h)) (λ z. omega arith)

    pub look-short : (length out ≡ k → ⊥) → Looks out 13
    look-short h = any-buffers (short-at h)

    module _ (l : length out ≡ k) where
      -- a refusal of the step
      pub refused-at : (b : Buffers) {m : ℕ} → (step 4 (state_at xs b) call).answer ≡ Call.refused m → (m ≡ 0 → ⊥) → LooksAt b out m
      refused-at b {m} e z = refuses b m (answer-fits call (state_at xs b) (both-fit xs out k n l) ∙ e) z

      -- its answer
      pub told_at : (b : Buffers) {after : List ℕ} (a : Answer) → (step 4 (state_at xs b) call).answer ≡ a → number a ≡ 0 → after ≡ slots_of a → LooksAt b after 0
      told_at b a e z h =
          let q = answer-fits call (state_at xs b) (both-fit xs out k n l) ∙ e in
          (sym (ap number q ∙ z), out-filled out q z h)

      pub look-told : {after : List ℕ} (a : Answer) → ((b : Buffers) → (step 4 (state_at xs b) call).answer ≡ a) → number a ≡ 0 → after ≡ slots_of a → Looks after 0
      look-told a e z h = any-buffers (λ b. told_at b a (e b) z h)

-- ---- flags, values and counts

-- a run is there unless its slot is 0
run-there : {A : Type 0} (none-there : Bool) (run : A) → is_some (pick none-there none (some run)) ≡ not none-there
run-there true run = refl
run-there false run = refl

module _ (xs out : List ℕ) where
  -- If both slices fit, the flag in slot k is the answer.
  abbrev Told : ℕ → List ℕ → ℕ → Type 0
  Told k after r = (r ≡ pick (fit xs (sized 1 out)) 0 13) × (after ≡ pick (fit xs (sized 1 out)) (bit (flag (at xs k)) ∷ []) out)

  flag-told : {after : List ℕ} {r : ℕ} (k : ℕ) (call : Call) → ((b : Buffers) → (step 4 (state_at xs b) call).answer ≡ Call.flag (flag (at xs k))) → Told k after r → Looks call 1 xs out after r
  unfolding answer_of out_after
  flag-told k call e h = any-buffers call 1 xs out (λ b. (h.0 ∙ (by (fit xs (sized 1 out)) b).0, h.1 ∙ (by (fit xs (sized 1 out)) b).1))
    where
      by : (t : Bool) (b : Buffers) → (pick t 0 13 ≡ number (answer_of t (state_at xs b) call)) × (pick t (bit (flag (at xs k)) ∷ []) out ≡ out_after (answer_of t (state_at xs b) call) out)
      by true b = (sym (ap number (e b)), sym (ap (λ (a : Answer). out_after a out) (e b)))
      by false b = (refl, refl)

  pub bidirectional-told : {after : List ℕ} {r : ℕ} → Told BIDIRECTIONAL after r → Looks is_bidirectional 1 xs out after r
  unfolding step port_refusal load
  bidirectional-told = flag-told BIDIRECTIONAL is_bidirectional (λ b. refl)

  pub faulted-told : {after : List ℕ} {r : ℕ} → Told FAULTED after r → Looks is_faulted 1 xs out after r
  unfolding step port_refusal load
  faulted-told = flag-told FAULTED is_faulted (λ b. refl)

  pub pending-told : {after : List ℕ} {r : ℕ} → Told RUN after r → Looks command_pending_call 1 xs out after r
  unfolding step port_refusal load
  pending-told = flag-told RUN command_pending_call (λ b. ap Call.flag (run-there (eqb (at xs RUN) 0) _))

module _ (xs out : List ℕ) (n : length xs ≡ Places.slots) where
  pub values-told : length out ≡ 4 → Looks requested_values_call 4 xs out (write (slot_rows 0 (four (λ (i : ℕ). at xs (VALUES + i)))) out) 0
  unfolding step port_refusal load
  values-told l = let v = four (λ (i : ℕ). at xs (VALUES + i)) in look-told requested_values_call 4 xs out n l (values v) (λ b. refl) refl (filled v out l)

  -- a word copied from a slot to a slot
  abbrev pub copied : ℕ → ℕ → List ℕ → List ℕ
  copied from to before = write (word_rows to (word from (at xs))) before

  -- the counts, which stand in the state as in the answer
  pub stats-told : Below xs → length out ≡ 22 → {after : List ℕ} → after ≡ take 22 (drop FRAMES_STARTED xs) → Looks stats 22 xs out after 0
  unfolding step port_refusal load tabulate
  stats-told low l h =
      look-told stats 22 xs out n l (counts (stats_at (at xs))) (λ t. refl) refl (h ∙ ap (λ (ys : List ℕ). take 22 (drop FRAMES_STARTED ys)) (tabulated Places.slots xs n) ∙ all)
    where
      pair : (k : ℕ) → at xs k ∷ at xs (k + 1) ∷ [] ≡ word_slots (word k (at xs))
      pair k = λ j. word_low k (at xs) low j ∷ word-high k (at xs) low j ∷ []

      all : take 22 (drop FRAMES_STARTED (tabulate Places.slots (at xs))) ≡ count_slots (stats_at (at xs))
      all =
          λ j. pair FRAMES_STARTED j ++ (pair FRAMES_COMPLETED j
          ++ (four_lists (λ (i : ℕ). pair (LANE_COMPLETIONS + 2 * i) j)
          ++ (pair BUSY_SKIPS j ++ (pair LEASE_EXPIRIES j ++ (pair FRAME_TIMEOUTS j ++ (pair DMA_FAULTS j ++ pair SPURIOUS j))))))

  -- each count of the four lanes
  pub reply-stats-told : length out ≡ 24 → {a b c d e f g h i j k m : List ℕ}
      → a ≡ copied (REPLIES + 3) 0 out
      → b ≡ copied (REPLIES + 12) 2 a
      → c ≡ copied (REPLIES + 21) 4 b
      → d ≡ copied (REPLIES + 30) 6 c
      → e ≡ copied (REPLIES + 5) 8 d
      → f ≡ copied (REPLIES + 14) 10 e
      → g ≡ copied (REPLIES + 23) 12 f
      → h ≡ copied (REPLIES + 32) 14 g
      → i ≡ copied (REPLIES + 7) 16 h
      → j ≡ copied (REPLIES + 16) 18 i
      → k ≡ copied (REPLIES + 25) 20 j
      → m ≡ copied (REPLIES + 34) 22 k
      → Looks reply_stats 24 xs out m 0
  unfolding step port_refusal load
  reply-stats-told l a b c d e f g h i j k m =
      let s = reply_stats_of (four (lane_at (at xs))) in
      let six = f ∙ ap (copied 75 10) (e ∙ ap (copied 66 8) (d ∙ ap (copied 91 6) (c ∙ ap (copied 82 4) (b ∙ ap (copied 73 2) a)))) in
      let all = m ∙ ap (copied 95 22) (k ∙ ap (copied 86 20) (j ∙ ap (copied 77 18) (i ∙ ap (copied 68 16) (h ∙ ap (copied 93 14) (g ∙ ap (copied 84 12) six))))) in
      look-told reply_stats 24 xs out n l (reply_counts s) (λ t. refl) refl (all ∙ filled (reply_count_slots s) out l)

-- ---- replies

-- a number that is past some numbers, one after another
past : {m k : ℕ} → m ≤ k → (k ≡ m → ⊥) → m + 1 ≤ k
past h z = omega arith

-- and one that is before some
short-of : {m k : ℕ} → k ≤ m + 1 → (k ≡ m + 1 → ⊥) → k ≤ m
short-of h z = omega arith

seven : {k : ℕ} → 23 ≤ k → k ≤ 23 → 7 ≡ k - REFUSED
seven h l = omega arith

-- a kind that is none of a reading's and of no refusal but that of a missing reply
pub no_kind : (k n : ℕ) → (k ≡ 0 → ⊥) → (k ≡ 1 → ⊥) → (k ≡ 2 → ⊥) → (k ≡ 3 → ⊥) → (k ≡ 4 → ⊥) → (k ≡ 5 → ⊥) → (k ≡ 6 → ⊥) → (k ≡ 7 → ⊥) → (k ≡ 8 → ⊥)
    → (k ≡ 24 → ⊥) → (k ≡ 25 → ⊥) → (k ≡ 26 → ⊥) → (k ≡ 27 → ⊥) → refused no_reply ≡ reply k n
no_kind k n a b c d e f g h i j l m o = last (is_refused_kind k) refl ∙ sym (reply-refused k n above)
  where
    above : 9 ≤ k
    above = past (past (past (past (past (past (past (past (past zero-le a) b) c) d) e) f) g) h) i

    last : (t : Bool) → is_refused_kind k ≡ t → ◌≡◌ {A = Reply.Answer Reading} (refused no_reply) (pick t (refused (k - REFUSED)) (refused no_reply))
    last true t =
        let w = kind-refused k t in
        ap refused (seven w.0 (short-of (short-of (short-of (short-of w.1 o) m) l) j))
    last false t = refl

-- a reply takes four slots
length-reply : (a : Reply.Answer Reading) → length (reply_slots a) ≡ 4
length-reply (given r) = refl
length-reply (refused m) = refl

-- the four slots, one after another
four-told : (k a b c d : ℕ) {i j : ℕ} (xs : List ℕ) → i ≡ k + 1 + 1 → j ≡ k + 1 + 1 + 1 → set (set (set (set xs k a) (k + 1) b) i c) j d ≡ write (slot_rows k (a ∷ b ∷ c ∷ d ∷ [])) xs
four-told k a b c d xs e f = λ t. set (set (set (set xs k a) (k + 1) b) (e t) c) (f t) d

module _ (k : ℕ) (xs : List ℕ) where
  pub given-told : {kind n : ℕ} {ys : List ℕ} (r : Reading) → kind ≡ kind_number r → n ≡ reading_number r → ys ≡ write (word_rows (k + 2) n) (set (set xs k 0) (k + 1) kind)
      → ys ≡ write (slot_rows k (reply_slots (given r))) xs
  given-told {kind} {n} r e f h =
      h
      ∙ ap (λ (v : ℕ). write (word_rows (k + 2) v) (set (set xs k 0) (k + 1) kind)) f
      ∙ ap (λ (v : ℕ). write (word_rows (k + 2) (reading_number r)) (set (set xs k 0) (k + 1) v)) e
      ∙ four-told k 0 (kind_number r) (reading_number r % 65536) (reading_number r / 65536) xs (omega arith) (omega arith)

  pub refused-told : {m : ℕ} (number : ℕ) → m ≡ number → set (set (set (set xs k m) (k + 1) 0) (k + 2) 0) (k + 3) 0 ≡ write (slot_rows k (reply_slots (refused number))) xs
  refused-told number e = ap (λ (v : ℕ). set (set (set (set xs k v) (k + 1) 0) (k + 2) 0) (k + 3) 0) e ∙ four-told k number 0 0 0 xs (omega arith) (omega arith)

-- what the first k of 17 slots hold
record Begins (k : ℕ) (p ys : List ℕ) : Type 0 where
  first : take k ys ≡ p
  size : length ys ≡ 17

-- a lane's reply behind them
lane-told : {k : ℕ} {p ys zs : List ℕ} (a : Reply.Answer Reading) → Begins k p ys → k + 4 ≤ 17 → zs ≡ write (slot_rows k (reply_slots a)) ys → Begins (k + 4) (p ++ reply_slots a) zs
lane-told {k} {p} {ys} {zs} a e h q =
    let rows = slot_rows k (reply_slots a) in
    let there = length-reply a in record {
      first =
          ap (λ (l : List ℕ). take (k + 4) l) q
          ∙ ap (λ (j : ℕ). take (k + j) (write rows ys)) (sym there)
          ∙ filled-to (reply_slots a) ys k (omega (arith, there, e.size))
          ∙ ap (λ (l : List ℕ). l ++ reply_slots a) e.first;
      size = ap length q ∙ length-write rows ys ∙ e.size;
    }

module _ (xs out : List ℕ) where
  -- the taking's two promises
  abbrev pub Taken : List ℕ → List ℕ → ℕ → Type 0
  Taken ys after r =
      ((b : Buffers) → Called (fit xs (sized 17 out)) take_replies b xs ys r)
      × ((b : Buffers) → after ≡ out_after (answer_of (fit xs (sized 17 out)) (state_at xs b) take_replies) out)

  pub take-unfit : (length xs ≡ Places.slots → ⊥) → Taken xs out 13
  take-unfit h = (λ b. called-unfit xs (state-short xs (sized 17 out) h), (look-unfit take_replies 17 xs out h).1)

  module _ (n : length xs ≡ Places.slots) where
    pub take_short : (length out ≡ 17 → ⊥) → Taken xs out 13
    take_short h = (λ b. called-unfit xs (other-long xs out 17 n h), (look-short take_replies 17 xs out n h).1)

    module _ (l : length out ≡ 17) where
      -- what is taken if some are held, and if none are
      abbrev taken : Bool → Option (List (Reply.Answer Reading))
      taken held = if held then some (replies_of (four (lane_at (at xs)))) else none

      taken-so : {ys after : List ℕ} {held : Bool} → flag (at xs REPLIES_HELD) ≡ held → Moves (on_core replies_taken) xs ys → after ≡ replies_slots (taken held) → Taken ys after 0
      unfolding step port_refusal load
      taken-so {held = held} e m h = (
        λ b. called-done xs (both-fit xs out 17 n l) refl m,
        (look-told take_replies 17 xs out n l (replied (taken held)) (λ b. ap (λ (t : Bool). replied (taken t)) e) refl h).1,
      )

      -- The reply that is handed out of the lane whose slots begin there. If none are held, it is no reply.
      abbrev pub handed : Bool → ℕ → Reply.Answer Reading
      handed held from = if held then reply (at xs from) (word (from + 1) (at xs)) else refused no_reply

      -- put behind what is there
      abbrev pub lane_told : Bool → ℕ → ℕ → List ℕ → List ℕ
      lane_told held from to before = write (slot_rows to (reply_slots (handed held from))) before

      all_told : (held : Bool) → bit held ∷ four_lists (λ (i : ℕ). reply_slots (handed held (REPLIES + 9 * i))) ≡ replies_slots (taken held)
      all_told true = refl
      all_told false = refl

      -- all lanes' replies
      pub replies-taken : {held : Bool} {c d e f : List ℕ} → held ≡ flag (at xs REPLIES_HELD) → c ≡ lane_told held REPLIES 1 (set out 0 (bit held))
          → d ≡ lane_told held (REPLIES + 9) 5 c → e ≡ lane_told held (REPLIES + 18) 9 d → f ≡ lane_told held (REPLIES + 27) 13 e
          → Taken (set xs REPLIES_HELD 0) f 0
      replies-taken {held} {f = f} t c d e q =
          let lane : ℕ → Reply.Answer Reading = λ (i : ℕ). handed held (REPLIES + 9 * i) in
          let r : ℕ → List ℕ = λ (i : ℕ). reply_slots (lane i) in
          let one : Begins 1 (bit held ∷ []) (set out 0 (bit held)) = record { first = filled-to (bit held ∷ []) out 0 (omega arith); size = length-set out 0 (bit held) ∙ l } in
          let all = lane-told (lane 3) (lane-told (lane 2) (lane-told (lane 1) (lane-told (lane 0) one (omega arith) c) (omega arith) d) (omega arith) e) (omega arith) q in
          taken-so (sym t) (moves-write ((REPLIES_HELD holds 0) ∷ []) xs n refl refl (λ w. ((w.0.0, w.0.1, w.0.2, w.0.3, w.0.4, refl), w.1)))
          (sym (take_all 17 f (omega (arith, all.size)))
          ∙ all.first
          ∙ ap (λ (u : List ℕ). bit held ∷ u) (append_assoc (r 0 ++ r 1) (r 2) (r 3) ∙ append_assoc (r 0) (r 1) (r 2 ++ r 3))
          ∙ all_told held)

-- ---- the view

four-at : {A : Type 0} (f : ℕ → A) (i : ℕ) (d : A) → i < 4 → f i ≡ get_or (four f) i d
four-at f zero d h = refl
four-at f (suc zero) d h = refl
four-at f (suc (suc zero)) d h = refl
four-at f (suc (suc (suc zero))) d h = refl
four-at f (suc (suc (suc (suc i)))) d h = absurd (omega arith)

-- a lane's part of the buffer that its mark names
pub view-is : (xs : List ℕ) (b : Buffers) (motor : ℕ) {in_second : Bool} → motor < 4 → flag (at xs (IN_SECOND + motor)) ≡ in_second
    → part 16 motor (pick in_second b.second b.first) ≡ sequence_sent (load xs).core b motor
unfolding load
view-is xs b motor h e =
    ap (λ (t : Bool). part 16 motor (pick t b.second b.first)) (sym e ∙ four-at (λ (i : ℕ). flag (at xs (IN_SECOND + i))) motor false h)
