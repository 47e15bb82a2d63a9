-- The calls that make a bank and command it. Each does what the source does, or is refused with a number and leaves the bank as it was.
-- Stands for `from_lanes`, `enable_bidirectional`, `command_stop`, `command_throttles`, `command_special`, `next_command_frame`, `request_telemetry`,
-- `cancel_telemetry_request`, `take_telemetry_request_sent` and `fallback_release_due`. They are of crates/ferrowasp-stm32-critical/src/dshot_bank.rs
-- (Eirik2020/ferro-wasp, commit 9cb8aca1a6, Copyright (c) 2026 Kaldstrand, Apache-2.0), changed: rewritten as definitions, over n lanes.
-- Assumes nothing.
use Rattle.std.specs.Prelude.{ℕ, Bool, true, false, not, List, ltb, leb, replicate, if◌then◌else◌}
use Rattle.std.proofs.Math.Option.{Option, none, some}
use Rattle.dshot_reply_spec.specs.Answer.{Answer, given, refused}
use Rattle.dshot_reply_spec.specs.Refusals.{no_reply, throttle_out_of_range, faulted, motors_running, command_pending, telemetry_pending, replies_unsupported}
use Rattle.dshot_spec.specs.Timing.{Timing}
use Rattle.dshot_spec.specs.Lease.{elapsed}
use Rattle.dshot_spec.specs.Throttle.{throttle_values}
use Rattle.dshot_spec.specs.Command.{CommandRun, Command, send, next_value}
use Rattle.dshot_bank_spec.specs.Lanes.{any, is_some}
use Rattle.dshot_bank_spec.specs.State.{Demand, MotorRun, Core, LaneReply, Bank}
use Rattle.dshot_bank_spec.specs.With.{with_demand, with_telemetry, with_command_sequence, with_frame, with_bidirectional}

-- a lane whose window was never read
abbrev pub no_replies : LaneReply
no_replies = record { reply = refused no_reply; valid = 0; invalid = 0; consecutive_invalid = 0 }

-- The Rust's `from_lanes`. In the port each lane sends from the first lent buffer, and the second is its spare.
unfoldable pub from_lanes : ℕ → Timing → Bank
from_lanes n timing = record {
  core = record {
    timing = timing;
    demand = record { requested_values = replicate n 0; lease_started_ms = 0; lease_duration_ms = none };
    telemetry = record { request = none; request_sent = none };
    command_sequence = none;
    frame = record { started_ms = 0; completion_mask = 0; busy = false; faulted = false; bidirectional = false; receiving = false; replies_waiting = false; replies_held = false; in_second = replicate n false };
    stats = record { frames_started = 0; frames_completed = 0; lane_completions = replicate n 0; busy_skips = 0; lease_expiries = 0; frame_timeouts = 0; dma_faults = 0; spurious_interrupts = 0 };
  };
  replies = replicate n no_replies;
}

-- The Rust's `enable_bidirectional`. Whether the lanes can receive replies is the hardware's answer.
unfoldable pub enable_bidirectional : Bool → Core → Answer Core
enable_bidirectional receives c =
    if not receives then refused replies_unsupported else
    given (with_frame (with_bidirectional true c.frame) c)

-- ---- demands

-- whether some motor is asked to turn
abbrev pub any_requested : List ℕ → Bool
any_requested values = any (ltb 0) values

-- the Rust's `command_stop`
unfoldable pub command_stop : ℕ → Core → Core
command_stop n c = with_demand (record { requested_values = replicate n 0; lease_started_ms = c.demand.lease_started_ms; lease_duration_ms = none }) c

-- the Rust's `command_throttles`
unfoldable pub command_throttles : ℕ → List ℕ → ℕ → ℕ → Core → Answer Core
command_throttles n commands now lease c =
    if c.frame.faulted then refused faulted else
    if any (ltb 2000) commands then refused throttle_out_of_range else
    if not (any_requested commands) then given (command_stop n c) else
    given (with_demand (record { requested_values = throttle_values n commands; lease_started_ms = now; lease_duration_ms = some lease }) c)

-- ---- runs of commands

-- A lease that has run out still counts, until a service finds it.
abbrev pub is_running : Demand → Bool
is_running d = if is_some d.lease_duration_ms then true else any_requested d.requested_values

-- the Rust's `command_special`
unfoldable pub command_special : ℕ → CommandRun → Core → Answer Core
command_special motor sequence c =
    if c.frame.faulted then refused faulted else
    if is_running c.demand then refused motors_running else
    if is_some c.command_sequence then refused command_pending else
    given (with_command_sequence (some (record { motor = motor; sequence = sequence })) c)

-- a command for one motor
pub record MotorCommand : Type 0 where
  pub motor : ℕ
  pub command : ℕ

-- what `next_command_frame` returns, and the `command_sequence` that it leaves
pub record NextFrame : Type 0 where
  pub command : Option MotorCommand
  pub left : Option MotorRun

-- the next command of a run; a spent run is cleared
abbrev pub next_of : ℕ → Command → CommandRun → NextFrame
next_of motor Command.none sequence = record { command = none; left = none }
next_of motor (send value) sequence = record { command = some (record { motor = motor; command = value }); left = some (record { motor = motor; sequence = sequence }) }

-- the next command of the run that the bank holds, if any
abbrev pub next_of_run : Option MotorRun → NextFrame
next_of_run none = record { command = none; left = none }
next_of_run (some run) = next_of run.motor (next_value 10 run.sequence).command (next_value 10 run.sequence).run

-- The Rust's `next_command_frame`. If a throttle is requested, the run is cancelled here, when a frame is about to start, and nowhere else.
unfoldable pub next_command_frame : Core → NextFrame
next_command_frame c =
    if any_requested c.demand.requested_values then record { command = none; left = none } else
    next_of_run c.command_sequence

-- ---- telemetry requests

-- the Rust's `request_telemetry`
unfoldable pub request_telemetry : ℕ → Core → Answer Core
request_telemetry motor c =
    if c.frame.faulted then refused faulted else
    if is_some c.telemetry.request then refused telemetry_pending else
    given (with_telemetry (record { request = some motor; request_sent = c.telemetry.request_sent }) c)

-- the Rust's `cancel_telemetry_request`
unfoldable pub cancel_telemetry_request : Core → Core
cancel_telemetry_request c = with_telemetry (record { request = none; request_sent = c.telemetry.request_sent }) c

-- the core that `take_telemetry_request_sent` leaves; `service` does the same first
unfoldable pub clear_request_sent : Core → Core
clear_request_sent c = with_telemetry (record { request = c.telemetry.request; request_sent = none }) c

-- ---- no call of a bank

-- the Rust's `fallback_release_due`: whether no frame set was released for two milliseconds, on a clock of 32 bits that may wrap
unfoldable pub fallback_release_due : ℕ → ℕ → Bool
fallback_release_due now last_release = leb 2 (elapsed 32 last_release now)
