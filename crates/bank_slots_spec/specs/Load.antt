-- The bank that 97 slots mean, whatever they hold.
-- Added: document 01 asks for calls from C.
-- Assumes nothing.
use Rattle.std.specs.Prelude.{ℕ, ◌+◌, ◌-◌, ◌*◌, ◌%◌, min, Bool, false, not, List, [], ◌∷◌, ◌++◌, eqb, ltb, leb, if◌then◌else◌}
use Rattle.std.proofs.Math.Option.{Option, none, some}
use Rattle.dshot_reply_spec.specs.Answer.{Answer, given, refused}
use Rattle.dshot_reply_spec.specs.Refusals.{no_reply, zero_period}
use Rattle.dshot_reply_spec.specs.Value.{Reading, erpm, temp, volt, amp, debug, state, edt}
use Rattle.dshot_spec.specs.Timing.{Timing}
use Rattle.dshot_spec.specs.Command.{CommandRun}
use Rattle.dshot_bank_spec.specs.State.{Demand, Telemetry, MotorRun, Frame, Stats, Core, LaneReply, Bank, lease_of}
use Rattle.bank_slots_spec.specs.Memory.{at, word, long}
use Rattle.bank_slots_spec.specs.Places.{TIMING, VALUES, LEASE_STARTED, LEASE_OVER, REQUEST, REQUEST_SENT, RUN, BUSY, FAULTED, BIDIRECTIONAL, RECEIVING, REPLIES_WAITING, REPLIES_HELD, IN_SECOND, COMPLETION_MASK, STARTED, FRAMES_STARTED, FRAMES_COMPLETED, LANE_COMPLETIONS, BUSY_SKIPS, LEASE_EXPIRIES, FRAME_TIMEOUTS, DMA_FAULTS, SPURIOUS, REPLIES}

-- a flag: 0 means no, any other number means yes
abbrev pub flag : ℕ → Bool
flag n = not (eqb n 0)

-- a motor or none: 0 means none; any other number n means lane n - 1, modulo 4
abbrev pub choice : ℕ → Option ℕ
choice n = if eqb n 0 then none else some ((n - 1) % 4)

-- The kind of a stored refusal is 16 + its number. It is above the kinds of readings, so no number means two things.
abbrev pub REFUSED : ℕ
REFUSED = 16

-- whether a kind is that of one of the five refusals of a reply, 7 to 11
abbrev pub is_refused_kind : ℕ → Bool
is_refused_kind k = if ltb k (REFUSED + no_reply) then false else leb k (REFUSED + zero_period)

-- A reply by its kind and number. The kinds of the bench's line are readings. Any kind that is none means 7 (no reply).
abbrev pub reply : ℕ → ℕ → Answer Reading
reply k n =
    if eqb k 0 then given (erpm n) else
    if eqb k 1 then given (temp (n % 256)) else
    if eqb k 2 then given (volt (n % 256)) else
    if eqb k 3 then given (amp (n % 256)) else
    if eqb k 4 then given (debug 1 (n % 256)) else
    if eqb k 5 then given (debug 2 (n % 256)) else
    if eqb k 6 then given (debug 3 (n % 256)) else
    if eqb k 7 then given (state (n % 256)) else
    if eqb k 8 then given edt else
    if is_refused_kind k then refused (k - REFUSED) else
    refused no_reply

-- A run of two commands in four slots from k on: the commands, the index, and how often the command is still to be sent. An index above 255 is spent,
-- as 255 is. Only the low byte of the last slot counts. A run in an argument and a run in the state are read in the same way.
abbrev pub run_from : ℕ → (ℕ → ℕ) → CommandRun
run_from k m = record { commands = m k ∷ m (k + 1) ∷ []; index = min (m (k + 2)) 255; repeats_left = m (k + 3) % 256 }

-- four things, by their places
abbrev pub four : {A : Type 0} → (ℕ → A) → List A
four f = f 0 ∷ f 1 ∷ f 2 ∷ f 3 ∷ []

-- four lists, one behind the other
abbrev pub four_lists : {A : Type 0} → (ℕ → List A) → List A
four_lists f = f 0 ++ (f 1 ++ (f 2 ++ f 3))

-- a lane's record in the slots from k on: the reply's kind and number, and its three counts
abbrev pub lane_from : ℕ → (ℕ → ℕ) → LaneReply
lane_from k m = record { reply = reply (m k) (word (k + 1) m); valid = word (k + 3) m; invalid = word (k + 5) m; consecutive_invalid = word (k + 7) m }

module _ (m : ℕ → ℕ) where
  abbrev pub timing_at : Timing
  timing_at = record { arr = m TIMING; zero_high = m (TIMING + 1); one_high = m (TIMING + 2); reply_sample_arr = m (TIMING + 3) }

  abbrev pub demand_at : Demand
  demand_at = record { requested_values = four (λ (i : ℕ). m (VALUES + i)); lease_started_ms = long LEASE_STARTED m; lease_duration_ms = lease_of (long LEASE_OVER m) }

  abbrev pub telemetry_at : Telemetry
  telemetry_at = record { request = choice (m REQUEST); request_sent = choice (m REQUEST_SENT) }

  -- a motor and its run, or none
  abbrev pub run_at : Option MotorRun
  run_at = if eqb (m RUN) 0 then none else some (record { motor = (m RUN - 1) % 4; sequence = run_from (RUN + 1) m })

  abbrev pub frame_at : Frame
  frame_at = record {
    started_ms = long STARTED m;
    completion_mask = word COMPLETION_MASK m;
    busy = flag (m BUSY);
    faulted = flag (m FAULTED);
    bidirectional = flag (m BIDIRECTIONAL);
    receiving = flag (m RECEIVING);
    replies_waiting = flag (m REPLIES_WAITING);
    replies_held = flag (m REPLIES_HELD);
    in_second = four (λ (i : ℕ). flag (m (IN_SECOND + i)));
  }

  abbrev pub stats_at : Stats
  stats_at = record {
    frames_started = word FRAMES_STARTED m;
    frames_completed = word FRAMES_COMPLETED m;
    lane_completions = four (λ (i : ℕ). word (LANE_COMPLETIONS + 2 * i) m);
    busy_skips = word BUSY_SKIPS m;
    lease_expiries = word LEASE_EXPIRIES m;
    frame_timeouts = word FRAME_TIMEOUTS m;
    dma_faults = word DMA_FAULTS m;
    spurious_interrupts = word SPURIOUS m;
  }

  abbrev pub core_at : Core
  core_at = record { timing = timing_at; demand = demand_at; telemetry = telemetry_at; command_sequence = run_at; frame = frame_at; stats = stats_at }

  -- lane i's record
  abbrev pub lane_at : ℕ → LaneReply
  lane_at i = lane_from (REPLIES + 9 * i) m

  -- the whole bank
  abbrev pub bank_at : Bank
  bank_at = record { core = core_at; replies = four lane_at }

-- the bank that the slots hold, whatever they hold
unfoldable pub load : List ℕ → Bank
load xs = bank_at (at xs)
