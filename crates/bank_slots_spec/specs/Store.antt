-- The contents of the 97 slots that are written for a bank.
-- Added: document 01 asks for calls from C.
-- Assumes nothing.
use Rattle.std.specs.Prelude.{ℕ, ◌+◌, ◌*◌, Bool, false, List, [], ◌∷◌, ◌++◌, get_or, replicate, if◌then◌else◌}
use Rattle.std.proofs.Math.Option.{Option, none, some}
use Rattle.dshot_reply_spec.specs.Answer.{Answer, given, refused}
use Rattle.dshot_reply_spec.specs.Value.{Reading}
use Rattle.dshot_reply_spec.specs.Kind.{kind_number, reading_number}
use Rattle.dshot_spec.specs.Timing.{Timing}
use Rattle.dshot_spec.specs.Command.{CommandRun}
use Rattle.dshot_bank_spec.specs.State.{Demand, Telemetry, MotorRun, Frame, Stats, Core, LaneReply, Bank}
use Rattle.dshot_bank_spec.specs.Commands.{no_replies}
use Rattle.bank_slots_spec.specs.Memory.{Row, ◌holds◌, write, word_rows, long_rows}
use Rattle.bank_slots_spec.specs.Places.{slots, TIMING, VALUES, LEASE_STARTED, LEASE_OVER, REQUEST, REQUEST_SENT, RUN, BUSY, FAULTED, BIDIRECTIONAL, RECEIVING, REPLIES_WAITING, REPLIES_HELD, IN_SECOND, COMPLETION_MASK, STARTED, FRAMES_STARTED, FRAMES_COMPLETED, LANE_COMPLETIONS, BUSY_SKIPS, LEASE_EXPIRIES, FRAME_TIMEOUTS, DMA_FAULTS, SPURIOUS, REPLIES}
use Rattle.bank_slots_spec.specs.Load.{REFUSED, four, four_lists}

abbrev pub bit : Bool → ℕ
bit b = if b then 1 else 0

abbrev pub choice_slot : Option ℕ → ℕ
choice_slot none = 0
choice_slot (some lane) = lane + 1

abbrev pub lease_number : Option ℕ → ℕ
lease_number none = 0
lease_number (some duration) = duration + 1

-- The kind and the number of a stored reply. A reading has those of the bench's line. A refusal has its kind, and the number 0.
abbrev pub reply_kind : Answer Reading → ℕ
reply_kind (given r) = kind_number r
reply_kind (refused number) = REFUSED + number

abbrev pub reply_number : Answer Reading → ℕ
reply_number (given r) = reading_number r
reply_number (refused number) = 0

abbrev pub timing_rows : Timing → List Row
timing_rows t = (TIMING holds t.arr) ∷ (TIMING + 1 holds t.zero_high) ∷ (TIMING + 2 holds t.one_high) ∷ (TIMING + 3 holds t.reply_sample_arr) ∷ []

abbrev pub value_rows : List ℕ → List Row
value_rows l = four (λ (i : ℕ). VALUES + i holds get_or l i 0)

abbrev pub demand_rows : Demand → List Row
demand_rows d = value_rows d.requested_values ++ (long_rows LEASE_STARTED d.lease_started_ms ++ long_rows LEASE_OVER (lease_number d.lease_duration_ms))

abbrev pub telemetry_rows : Telemetry → List Row
telemetry_rows t = (REQUEST holds choice_slot t.request) ∷ (REQUEST_SENT holds choice_slot t.request_sent) ∷ []

abbrev pub run_motor : Option MotorRun → ℕ
run_motor none = 0
run_motor (some r) = r.motor + 1

-- a number of the run; 0 if there is none
abbrev pub of_run : (CommandRun → ℕ) → Option MotorRun → ℕ
of_run f none = 0
of_run f (some r) = f r.sequence

abbrev pub run_rows : Option MotorRun → List Row
run_rows o =
    (RUN holds run_motor o)
    ∷ (RUN + 1 holds of_run (λ (s : CommandRun). get_or s.commands 0 0) o)
    ∷ (RUN + 2 holds of_run (λ (s : CommandRun). get_or s.commands 1 0) o)
    ∷ (RUN + 3 holds of_run (λ (s : CommandRun). s.index) o)
    ∷ (RUN + 4 holds of_run (λ (s : CommandRun). s.repeats_left) o)
    ∷ []

abbrev pub frame_rows : Frame → List Row
frame_rows f =
    (BUSY holds bit f.busy)
    ∷ (FAULTED holds bit f.faulted)
    ∷ (BIDIRECTIONAL holds bit f.bidirectional)
    ∷ (RECEIVING holds bit f.receiving)
    ∷ (REPLIES_WAITING holds bit f.replies_waiting)
    ∷ (REPLIES_HELD holds bit f.replies_held)
    ∷ (four (λ (i : ℕ). IN_SECOND + i holds bit (get_or f.in_second i false)) ++ (word_rows COMPLETION_MASK f.completion_mask ++ long_rows STARTED f.started_ms))

abbrev pub stats_rows : Stats → List Row
stats_rows s =
    word_rows FRAMES_STARTED s.frames_started
    ++ (word_rows FRAMES_COMPLETED s.frames_completed
    ++ (four_lists (λ (i : ℕ). word_rows (LANE_COMPLETIONS + 2 * i) (get_or s.lane_completions i 0))
    ++ (word_rows BUSY_SKIPS s.busy_skips
    ++ (word_rows LEASE_EXPIRIES s.lease_expiries
    ++ (word_rows FRAME_TIMEOUTS s.frame_timeouts
    ++ (word_rows DMA_FAULTS s.dma_faults
    ++ word_rows SPURIOUS s.spurious_interrupts))))))

abbrev pub core_rows : Core → List Row
core_rows c =
    timing_rows c.timing
    ++ (demand_rows c.demand
    ++ (telemetry_rows c.telemetry
    ++ (run_rows c.command_sequence
    ++ (frame_rows c.frame
    ++ stats_rows c.stats))))

-- the rows of a reply from slot k on; `lane_rows` has those of its counts too
abbrev pub reply_rows : ℕ → Answer Reading → List Row
reply_rows k a = (k holds reply_kind a) ∷ word_rows (k + 1) (reply_number a)

abbrev pub lane_rows : ℕ → LaneReply → List Row
lane_rows k l = reply_rows k l.reply ++ (word_rows (k + 3) l.valid ++ (word_rows (k + 5) l.invalid ++ word_rows (k + 7) l.consecutive_invalid))

abbrev pub replies_rows : List LaneReply → List Row
replies_rows l = four_lists (λ (i : ℕ). lane_rows (REPLIES + 9 * i) (get_or l i no_replies))

abbrev pub bank_rows : Bank → List Row
bank_rows b = core_rows b.core ++ replies_rows b.replies

-- the slots of a bank
unfoldable pub store : Bank → List ℕ
store b = write (bank_rows b) (replicate slots 0)
