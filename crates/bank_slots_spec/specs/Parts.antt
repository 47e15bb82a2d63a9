-- The parts of a bank's steps, as the code takes them one after another. Only private functions cite this.
-- Assumes nothing.
use Rattle.std.specs.Prelude.{ℕ, ◌+◌, true, false, Bool, List, [], ◌∷◌, if◌then◌else◌}
use Rattle.std.proofs.Math.Option.{Option, none, some}
use Rattle.dshot_spec.specs.Throttle.{throttle_values}
use Rattle.dshot_spec.specs.Command.{CommandRun}
use Rattle.dshot_bank_spec.specs.State.{Core, LaneReply, Bank}
use Rattle.dshot_bank_spec.specs.With.{with_frames_started, with_started_ms, with_completion_mask, with_in_second, with_faulted, with_busy, with_receiving, with_replies_waiting, with_demand, with_telemetry, with_command_sequence, with_frame, with_stats}
use Rattle.dshot_bank_spec.specs.Replies.{wrapping_add}
use Rattle.dshot_bank_spec.specs.Commands.{next_command_frame}
use Rattle.dshot_bank_spec.specs.Service.{replies_read, read_replies}
use Rattle.dshot_bank_spec.specs.Send.{count_fault, turn_marks, carry}
use Rattle.bank_slots_spec.specs.Memory.{Row, ◌holds◌, at, write, word, word_rows}

-- the slots with one more in the count at slot k
abbrev pub bumped : ℕ → List ℕ → List ℕ
bumped k xs = write (word_rows k (wrapping_add (word k (at xs)))) xs

-- ---- latch_fault

abbrev pub fault_counted : Bool → Core → Core
fault_counted spurious c = with_stats (count_fault c.frame.faulted spurious c.stats) c

abbrev pub flags_latched : Core → Core
flags_latched c = with_frame (with_replies_waiting false (with_receiving false (with_busy false (with_faulted true c.frame)))) c

abbrev pub requests_cleared : Core → Core
requests_cleared c = with_command_sequence none (with_telemetry (record { request = none; request_sent = none }) c)

-- ---- commands

-- the core with a demand in force
abbrev pub demanded : List ℕ → ℕ → ℕ → Core → Core
demanded commands now lease c = with_demand (record { requested_values = throttle_values 4 commands; lease_started_ms = now; lease_duration_ms = some lease }) c

-- the core with a run queued
abbrev pub queued : ℕ → CommandRun → Core → Core
queued motor sequence c = with_command_sequence (some (record { motor = motor; sequence = sequence })) c

-- ---- replies

abbrev pub with_replies : List LaneReply → Bank → Bank
with_replies l b = record { core = b.core; replies = l }

-- the bank after its windows are read, if they wait
abbrev pub windows_read : List Bool → List ℕ → List ℕ → Bank → Bank
windows_read present masks samples b =
    record { core = replies_read b.core; replies = read_replies 4 b.core.frame.replies_waiting present masks samples b.replies }

-- ---- sending

-- the core after its run is stepped
abbrev pub run_stepped : Core → Core
run_stepped c = with_command_sequence (next_command_frame c).left c

-- the core after the marks of the first lanes turn
abbrev pub marks_turned : ℕ → Core → Core
marks_turned turned c = with_frame (with_in_second (turn_marks 4 turned c.frame.in_second) c.frame) c

-- An ordinary frame carries the pending request. The frame of a special command carries none.
abbrev pub carried_by : Bool → Core → Option ℕ
carried_by ordinary c = if ordinary then c.telemetry.request else none

abbrev pub request_carried : Bool → Core → Core
request_carried ordinary c = with_telemetry (carry (carried_by ordinary c) c.telemetry) c

-- the core with a frame set in flight, without the request that it carries
abbrev pub in_flight : ℕ → Core → Core
in_flight now c =
    with_stats (with_frames_started (wrapping_add c.stats.frames_started) c.stats)
    (with_frame (with_busy true (with_completion_mask 0 (with_started_ms now c.frame))) c)

-- ---- answers

-- some values for the slots from slot k on
abbrev pub slot_rows : ℕ → List ℕ → List Row
slot_rows k [] = []
slot_rows k (v ∷ vs) = (k holds v) ∷ slot_rows (k + 1) vs
