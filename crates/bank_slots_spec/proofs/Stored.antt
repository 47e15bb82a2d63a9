-- If the library's types hold a bank, it is read back from its slots. If the library wrote slots, they are those of the bank that they hold. So a
-- step on such slots leaves the slots of the bank after the step.
-- Assumes nothing.
use mathlib.Core.Path.{◌≡◌, ◌∙◌, refl, sym, ap, subst}
use mathlib.Core.Bool.{Bool, true, false}
use mathlib.Core.List.{List}
use Prim.Native.Nat.{ℕ, zero, suc, ◌+◌, ◌*◌, ◌/◌, ◌%◌, ◌<◌}
use native.Mathlib.Omega.{arith}
use lib.ListN.{length, get_or, replicate}
use Rattle.dshot_reply_spec.specs.Answer.{Answer}
use Rattle.dshot_reply_spec.specs.Value.{Reading}
use Rattle.dshot_spec.specs.Tabulate.{tabulate}
use Rattle.dshot_bank_spec.specs.State.{LaneReply, Bank}
use Rattle.dshot_spec.specs.Timing.{Timing}
use Rattle.dshot_bank_spec.specs.Commands.{no_replies, from_lanes}
use Rattle.bank_slots_spec.specs.Memory.{at, write, over, within, word, long, word_rows, long_rows}
use Rattle.bank_slots_spec.specs.Places.{slots, LEASE_STARTED, LEASE_OVER, REQUEST, REQUEST_SENT, RUN, BUSY, FAULTED, BIDIRECTIONAL, RECEIVING, REPLIES_WAITING, REPLIES_HELD, IN_SECOND, COMPLETION_MASK, STARTED, FRAMES_STARTED, FRAMES_COMPLETED, BUSY_SKIPS, LEASE_EXPIRIES, FRAME_TIMEOUTS, DMA_FAULTS, SPURIOUS, LANE_COMPLETIONS, REPLIES}
use Rattle.bank_slots_spec.specs.Load.{flag, reply, four, demand_at, telemetry_at, run_at, frame_at, stats_at, core_at, lane_at, bank_at, load}
use Rattle.bank_slots_spec.specs.Store.{bit, reply_kind, reply_number, demand_rows, telemetry_rows, run_rows, frame_rows, stats_rows, core_rows, lane_rows, replies_rows, bank_rows, store}
use Rattle.bank_slots_spec.specs.Written.{is_reply, FlagsWritten, MarksWritten, RequestsWritten, ReplyWritten, RepliesWritten, WrittenAt, Written}
use Rattle.bank_slots_spec.specs.Storable.{Below, ReplyFits, Storable}
use Rattle.bank_slots_spec.specs.Moves.{Moves}
use Rattle.bank_slots_spec.proofs.MemoryLaws.{at-write, length-write, Agrees, nil, row, agrees-append, write-agrees, word_back}
use Rattle.bank_slots_spec.proofs.FillLaws.{tabulated}
use Rattle.bank_slots_spec.proofs.FieldLaws.{flag-back, flag-written, flag-kept, four-back, word_low, word-high, long-back, long-fits, long-0, long-1, long-2, long-3, lease-back, lease-kept, lease-fits, choice-back, choice-written, choice-kept, choice-fits, run-back, run-written, run-kept, run_fits, reply-back, reply-written, reply-kept, reply-fits}

pub length-store : (b : Bank) → length (store b) ≡ slots
unfolding store
length-store b = length-write (bank_rows b) (replicate slots 0)

-- what the slots of a bank hold
at_store : (b : Bank) → at (store b) ≡ over (bank_rows b) (at (replicate slots 0))
unfolding store
at_store b = at-write (bank_rows b) (replicate slots 0) refl

-- ---- what is written is read back

marks-back : (l : List Bool) → length l ≡ 4 → four (λ (i : ℕ). flag (bit (get_or l i false))) ≡ l
marks-back l h = (λ j. four (λ (i : ℕ). flag-back (get_or l i false) j)) ∙ four-back false l h

-- a number of 32 bits from its two slots
abbrev word_of : ℕ → ℕ
word_of n = n / 65536 * 65536 + n % 65536

counts-back : (l : List ℕ) → length l ≡ 4 → four (λ (i : ℕ). word_of (get_or l i 0)) ≡ l
counts-back l h = (λ j. four (λ (i : ℕ). word_back (get_or l i 0) j)) ∙ four-back 0 l h

-- a lane's reply and counts from its nine slots
abbrev lane_of : LaneReply → LaneReply
lane_of l = record {
  reply = reply (reply_kind l.reply) (word_of (reply_number l.reply));
  valid = word_of l.valid;
  invalid = word_of l.invalid;
  consecutive_invalid = word_of l.consecutive_invalid;
}

lane-back : (l : LaneReply) → ReplyFits l.reply → lane_of l ≡ l
lane-back l h =
    let r = ap (reply (reply_kind l.reply)) (word_back (reply_number l.reply)) ∙ reply-back l.reply h in
    λ j. record { reply = r j; valid = word_back l.valid j; invalid = word_back l.invalid j; consecutive_invalid = word_back l.consecutive_invalid j }

lanes-back : (l : List LaneReply) → length l ≡ 4 → ((i : ℕ) → ReplyFits (get_or l i no_replies).reply) → four (λ (i : ℕ). lane_of (get_or l i no_replies)) ≡ l
lanes-back l h f = (λ j. four (λ (i : ℕ). lane-back (get_or l i no_replies) (f i) j)) ∙ four-back no_replies l h

pub load_store : (b : Bank) → Storable b → load (store b) ≡ b
unfolding load
load_store b h = ap bank_at (at_store b) ∙ λ j. record {
  core = record {
    timing = b.core.timing;
    demand = record {
      requested_values = four-back 0 b.core.demand.requested_values h.values j;
      lease_started_ms = long-back b.core.demand.lease_started_ms h.lease_started j;
      lease_duration_ms = lease-back b.core.demand.lease_duration_ms h.lease_duration j;
    };
    telemetry = record {
      request = choice-back b.core.telemetry.request h.request j;
      request_sent = choice-back b.core.telemetry.request_sent h.sent j;
    };
    command_sequence = run-back b.core.command_sequence h.run j;
    frame = record {
      started_ms = long-back b.core.frame.started_ms h.started j;
      completion_mask = word_back b.core.frame.completion_mask j;
      busy = flag-back b.core.frame.busy j;
      faulted = flag-back b.core.frame.faulted j;
      bidirectional = flag-back b.core.frame.bidirectional j;
      receiving = flag-back b.core.frame.receiving j;
      replies_waiting = flag-back b.core.frame.replies_waiting j;
      replies_held = flag-back b.core.frame.replies_held j;
      in_second = marks-back b.core.frame.in_second h.marks j;
    };
    stats = record {
      frames_started = word_back b.core.stats.frames_started j;
      frames_completed = word_back b.core.stats.frames_completed j;
      lane_completions = counts-back b.core.stats.lane_completions h.completions j;
      busy_skips = word_back b.core.stats.busy_skips j;
      lease_expiries = word_back b.core.stats.lease_expiries j;
      frame_timeouts = word_back b.core.stats.frame_timeouts j;
      dma_faults = word_back b.core.stats.dma_faults j;
      spurious_interrupts = word_back b.core.stats.spurious_interrupts j;
    };
  };
  replies = lanes-back b.replies h.lanes h.replies j;
}

-- ---- a new bank fits

pub new-fits : (timing : Timing) → Storable (from_lanes 4 timing)
unfolding from_lanes
new-fits timing = record {
  values = refl;
  lease_started = omega arith;
  lease_duration = tt;
  request = tt;
  sent = tt;
  run = tt;
  started = omega arith;
  marks = refl;
  completions = refl;
  lanes = refl;
  replies = lane;
}
  where
    lane : (i : ℕ) → ReplyFits (get_or (replicate 4 no_replies) i no_replies).reply
    lane zero = (omega arith, omega arith)
    lane (suc zero) = (omega arith, omega arith)
    lane (suc (suc zero)) = (omega arith, omega arith)
    lane (suc (suc (suc zero))) = (omega arith, omega arith)
    lane (suc (suc (suc (suc i)))) = (omega arith, omega arith)

-- ---- what is written is what the library writes

number-written : (a : Answer Reading) → ReplyFits a → is_reply (reply_kind a) (word_of (reply_number a)) ≡ true
number-written a h = ap (is_reply (reply_kind a)) (word_back (reply_number a)) ∙ reply-written a h

module _ (b : Bank) (h : Storable b) where
  -- what the slots hold
  abbrev held : ℕ → ℕ
  held = over (bank_rows b) (at (replicate slots 0))

  flags-written : FlagsWritten held
  flags-written =
      let f = b.core.frame in
      (flag-written f.busy, flag-written f.faulted, flag-written f.bidirectional, flag-written f.receiving, flag-written f.replies_waiting, flag-written f.replies_held)

  marks-written : MarksWritten held
  marks-written =
      let l = b.core.frame.in_second in
      (flag-written (get_or l 0 false), flag-written (get_or l 1 false), flag-written (get_or l 2 false), flag-written (get_or l 3 false))

  requests-written : RequestsWritten held
  requests-written =
      let t = b.core.telemetry in
      (choice-written t.request h.request, choice-written t.request_sent h.sent, run-written b.core.command_sequence h.run)

  lane-written : (i : ℕ) → is_reply (reply_kind (get_or b.replies i no_replies).reply) (word_of (reply_number (get_or b.replies i no_replies).reply)) ≡ true
  lane-written i = number-written (get_or b.replies i no_replies).reply (h.replies i)

  pub store-written : Written (store b)
  unfolding Written
  store-written = subst WrittenAt (sym (at_store b)) (flags-written, (marks-written, (requests-written, (lane-written 0, lane-written 1, lane-written 2, lane-written 3))))

-- ---- what is read fits

pub loads-fit : (xs : List ℕ) → Below xs → Storable (load xs)
unfolding load
loads-fit xs low = record {
  values = refl;
  lease_started = long-fits LEASE_STARTED (at xs) low;
  lease_duration = lease-fits (long LEASE_OVER (at xs)) (long-fits LEASE_OVER (at xs) low);
  request = choice-fits (at xs REQUEST);
  sent = choice-fits (at xs REQUEST_SENT);
  run = run_fits (at xs RUN) (at xs (RUN + 1)) (at xs (RUN + 2)) (at xs (RUN + 3)) (at xs (RUN + 4));
  started = long-fits STARTED (at xs) low;
  marks = refl;
  completions = refl;
  lanes = refl;
  replies = lane;
}
  where
    lane : (i : ℕ) → ReplyFits (get_or (four (lane_at (at xs))) i no_replies).reply
    lane zero = reply-fits (at xs REPLIES) (word (REPLIES + 1) (at xs))
    lane (suc zero) = reply-fits (at xs (REPLIES + 9)) (word (REPLIES + 10) (at xs))
    lane (suc (suc zero)) = reply-fits (at xs (REPLIES + 18)) (word (REPLIES + 19) (at xs))
    lane (suc (suc (suc zero))) = reply-fits (at xs (REPLIES + 27)) (word (REPLIES + 28) (at xs))
    lane (suc (suc (suc (suc i)))) = (omega arith, omega arith)

-- ---- what the library wrote is what it writes for what is read

module _ (m : ℕ → ℕ) (low : (i : ℕ) → m i < 65536) where
  word-agrees : (k : ℕ) → Agrees m (word_rows k (word k m))
  word-agrees k = row (word_low k m low) (row (word-high k m low) nil)

  long-agrees : (k : ℕ) → Agrees m (long_rows k (long k m))
  long-agrees k = row (long-0 k m low) (row (long-1 k m low) (row (long-2 k m low) (row (long-3 k m low) nil)))

  demand-agrees : Agrees m (demand_rows (demand_at m))
  demand-agrees =
      row refl (row refl (row refl (row refl
      (agrees-append _ (long-agrees LEASE_STARTED)
      (subst (λ (n : ℕ). Agrees m (long_rows LEASE_OVER n)) (lease-kept (long LEASE_OVER m)) (long-agrees LEASE_OVER))))))

  telemetry-agrees : RequestsWritten m → Agrees m (telemetry_rows (telemetry_at m))
  telemetry-agrees w = row (choice-kept (m REQUEST) w.0) (row (choice-kept (m REQUEST_SENT) w.1) nil)

  run-agrees : RequestsWritten m → Agrees m (run_rows (run_at m))
  run-agrees w =
      let r = run-kept (m RUN) (m (RUN + 1)) (m (RUN + 2)) (m (RUN + 3)) (m (RUN + 4)) w.2 in
      row r.0 (row r.1 (row r.2 (row r.3 (row r.4 nil))))

  frame-agrees : FlagsWritten m → MarksWritten m → Agrees m (frame_rows (frame_at m))
  frame-agrees f w =
      row (flag-kept (m BUSY) f.0)
      (row (flag-kept (m FAULTED) f.1)
      (row (flag-kept (m BIDIRECTIONAL) f.2)
      (row (flag-kept (m RECEIVING) f.3)
      (row (flag-kept (m REPLIES_WAITING) f.4)
      (row (flag-kept (m REPLIES_HELD) f.5)
      (row (flag-kept (m IN_SECOND) w.0)
      (row (flag-kept (m (IN_SECOND + 1)) w.1)
      (row (flag-kept (m (IN_SECOND + 2)) w.2)
      (row (flag-kept (m (IN_SECOND + 3)) w.3)
      (agrees-append _ (word-agrees COMPLETION_MASK) (long-agrees STARTED)))))))))))

  stats-agree : Agrees m (stats_rows (stats_at m))
  stats-agree =
      agrees-append _ (word-agrees FRAMES_STARTED)
      (agrees-append _ (word-agrees FRAMES_COMPLETED)
      (agrees-append _ (agrees-append _ (word-agrees LANE_COMPLETIONS)
      (agrees-append _ (word-agrees (LANE_COMPLETIONS + 2))
      (agrees-append _ (word-agrees (LANE_COMPLETIONS + 4)) (word-agrees (LANE_COMPLETIONS + 6)))))
      (agrees-append _ (word-agrees BUSY_SKIPS)
      (agrees-append _ (word-agrees LEASE_EXPIRIES)
      (agrees-append _ (word-agrees FRAME_TIMEOUTS)
      (agrees-append _ (word-agrees DMA_FAULTS) (word-agrees SPURIOUS)))))))

  -- the nine slots of a lane from slot k
  lane-agrees : (k : ℕ) → ReplyWritten m k
      → Agrees m (lane_rows k (record { reply = reply (m k) (word (k + 1) m); valid = word (k + 3) m; invalid = word (k + 5) m; consecutive_invalid = word (k + 7) m }))
  lane-agrees k w =
      let r = reply-kept (m k) (word (k + 1) m) w in
      row r.0
      (agrees-append _ (subst (λ (n : ℕ). Agrees m (word_rows (k + 1) n)) r.1 (word-agrees (k + 1)))
      (agrees-append _ (word-agrees (k + 3))
      (agrees-append _ (word-agrees (k + 5)) (word-agrees (k + 7)))))

  replies-agree : RepliesWritten m → Agrees m (replies_rows (four (lane_at m)))
  replies-agree w =
      agrees-append _ (lane-agrees REPLIES w.0)
      (agrees-append _ (lane-agrees (REPLIES + 9) w.1)
      (agrees-append _ (lane-agrees (REPLIES + 18) w.2) (lane-agrees (REPLIES + 27) w.3)))

  core-agrees : FlagsWritten m → MarksWritten m → RequestsWritten m → Agrees m (core_rows (core_at m))
  core-agrees f w r =
      row refl (row refl (row refl (row refl
      (agrees-append _ demand-agrees
      (agrees-append _ (telemetry-agrees r)
      (agrees-append _ (run-agrees r)
      (agrees-append _ (frame-agrees f w) stats-agree)))))))

  bank-agrees : WrittenAt m → Agrees m (bank_rows (bank_at m))
  bank-agrees w = agrees-append _ (core-agrees w.0 w.1.0 w.1.1.0) (replies-agree w.1.1.1)

-- a bank's rows fill every slot, whatever was there
covered : (b : Bank) (m : ℕ → ℕ) → write (bank_rows b) (tabulate slots m) ≡ store b
unfolding store tabulate
covered b m = refl

pub written-stored : (xs : List ℕ) → length xs ≡ slots → Below xs → Written xs → xs ≡ store (load xs)
unfolding load Written
written-stored xs n low w =
    sym (write-agrees (bank_rows b) xs (subst (λ (k : ℕ). within (bank_rows b) k ≡ true) (sym n) refl) (bank-agrees (at xs) low w))
    ∙ ap (write (bank_rows b)) (tabulated slots xs n)
    ∙ covered b (at xs)
  where
    b : Bank
    b = bank_at (at xs)

-- what a step leaves of slots that the library wrote is what it writes for the bank after the step
pub stored-moves : {f : Bank → Bank} (b : Bank) (ys : List ℕ) → Storable b → Moves f (store b) ys → length ys ≡ slots → Below ys → ys ≡ store (f b)
stored-moves {f} b ys h p n low = written-stored ys n low (p.keeps (store-written b h)) ∙ ap store (p.loads ∙ ap f (load_store b h))
