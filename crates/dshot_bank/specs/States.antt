-- What the code's state means in the terms of the definitions. Stands for `DshotBank` of the Rust's dshot_bank.rs.
-- Assumes nothing.
use Rattle.std.specs.Prelude.{ℕ, List, map, nat_lt, if◌then◌else◌}
use Rattle.std.specs.Prelude as Std
use Rattle.std.proofs.Math.Option.{Option, none, some}
use Rattle.dshot_reply_spec.specs.Answer as Reply
use Rattle.dshot_reply_spec.specs.Answer.{given, refused}
use Rattle.dshot_reply_spec.specs.Refusals.{no_reply, overlong, invalid_symbol, wrong_checksum, zero_period}
use Rattle.dshot_reply_spec.specs.Value.{Reading, erpm, temp, volt, amp, debug, state, edt}
use Rattle.dshot.specs.Answers.{timing_of, run_of}
use Rattle.dshot_bank_spec.specs.State.{Buffers}
use Rattle.dshot_bank_spec.specs.State as Spec
use Rattle.dshot_bank_spec.specs.Calls.{State, Answer, Stepped}
use Rattle.dshot_bank.specs.declared.DshotMotor.{DshotMotor}
use Rattle.dshot_bank.specs.declared.DshotMotor.TheVariants.{Motor1, Motor2, Motor3, Motor4}
use Rattle.dshot_bank.specs.declared.DshotStats.{DshotStats}
use Rattle.dshot_bank.specs.declared.Demand.{Demand}
use Rattle.dshot_bank.specs.declared.MotorRun.{MotorRun}
use Rattle.dshot_bank.specs.declared.Requests.{Requests}
use Rattle.dshot_bank.specs.declared.Frame.{Frame}
use Rattle.dshot_bank.specs.declared.Core.{Core}
use Rattle.dshot_bank.specs.declared.StoredReply.{StoredReply}
use Rattle.dshot_bank.specs.declared.StoredReply.TheVariants.{Erpm, Temperature, Voltage, Current, Debug, StateEvent, ExtendedTelemetryEnabled, NoReply, Overlong, InvalidSymbol, Checksum, ZeroPeriod}
use Rattle.dshot_bank.specs.declared.LaneReply.{LaneReply}
use Rattle.dshot_bank.specs.declared.DshotBank.{DshotBank}

-- the lane of a motor
abbrev pub motor_of : DshotMotor → ℕ
motor_of Motor1 = 0
motor_of Motor2 = 1
motor_of Motor3 = 2
motor_of Motor4 = 3

-- an `Option`, by the meaning of its value
abbrev pub option_of : {T A : Type 0} → (T → A) → Std.Option T → Option A
option_of meaning Std.None = none
option_of meaning (Std.Some value) = some (meaning value)

-- the Rust's `Option<DshotMotor>`
abbrev pub choice_of : Std.Option DshotMotor → Option ℕ
choice_of = option_of motor_of

-- the motor of a lane; there are four
abbrev pub motor_at : ℕ → Option ℕ
motor_at lane = if nat_lt lane 4 then some lane else none

abbrev pub demand_of : Demand → Spec.Demand
demand_of d = record { requested_values = d.requested_values; lease_started_ms = d.lease_started_ms; lease_duration_ms = option_of (λ n. n) d.lease_duration_ms }

abbrev pub telemetry_of : Requests → Spec.Telemetry
telemetry_of r = record { request = choice_of r.telemetry_request; request_sent = choice_of r.telemetry_request_sent }

abbrev pub motor_run_of : MotorRun → Spec.MotorRun
motor_run_of r = record { motor = motor_of r.motor; sequence = run_of r.sequence }

-- the Rust's `Option<(DshotMotor, DshotCommandSequence)>`
abbrev pub command_sequence_of : Std.Option MotorRun → Option Spec.MotorRun
command_sequence_of = option_of motor_run_of

abbrev pub frame_of : Frame → Spec.Frame
frame_of f = record {
  started_ms = f.frame_started_ms;
  completion_mask = f.completion_mask;
  busy = f.busy;
  faulted = f.faulted;
  bidirectional = f.bidirectional;
  receiving = f.receiving;
  replies_waiting = f.replies_waiting;
  replies_held = f.replies_held;
  in_second = f.in_second;
}

abbrev pub stats_of : DshotStats → Spec.Stats
stats_of s = record {
  frames_started = s.frames_started;
  frames_completed = s.frames_completed;
  lane_completions = s.lane_completions;
  busy_skips = s.busy_skips;
  lease_expiries = s.lease_expiries;
  frame_timeouts = s.frame_timeouts;
  dma_faults = s.dma_faults;
  spurious_interrupts = s.spurious_interrupts;
}

abbrev pub core_of : Core → Spec.Core
core_of c = record {
  timing = timing_of c.timing;
  demand = demand_of c.demand;
  telemetry = telemetry_of c.requests;
  command_sequence = command_sequence_of c.requests.command_sequence;
  frame = frame_of c.frame;
  stats = stats_of c.stats;
}

-- the reading of a lane's window, or document 01's number of its refusal
abbrev pub stored_answer : StoredReply → Reply.Answer Reading
stored_answer (Erpm n) = given (erpm n)
stored_answer (Temperature n) = given (temp n)
stored_answer (Voltage n) = given (volt n)
stored_answer (Current n) = given (amp n)
stored_answer (Debug channel n) = given (debug channel n)
stored_answer (StateEvent n) = given (state n)
stored_answer ExtendedTelemetryEnabled = given edt
stored_answer NoReply = refused no_reply
stored_answer Overlong = refused overlong
stored_answer InvalidSymbol = refused invalid_symbol
stored_answer Checksum = refused wrong_checksum
stored_answer ZeroPeriod = refused zero_period

abbrev pub lane_reply_of : LaneReply → Spec.LaneReply
lane_reply_of l = record { reply = stored_answer l.reply; valid = l.valid; invalid = l.invalid; consecutive_invalid = l.consecutive_invalid }

abbrev pub replies_of : List LaneReply → List Spec.LaneReply
replies_of l = map lane_reply_of l

abbrev pub bank_of : DshotBank → Spec.Bank
bank_of b = record { core = core_of b.core; replies = replies_of b.replies }

-- a bank with the two lent buffers
abbrev pub state_of : DshotBank → Buffers → State
state_of bank buffers = record { bank = bank_of bank; buffers = buffers }

-- an answer, and a bank with its buffers after it
abbrev pub stepped : Answer → DshotBank → Buffers → Stepped
stepped answer bank buffers = record { answer = answer; state = state_of bank buffers }
