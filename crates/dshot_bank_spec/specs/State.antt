-- What a bank holds: the fields of the source's `DshotBank`. A mark per lane and two lent buffers stand for the source's spare buffers.
-- Stands for `DshotBank`, `DshotStats` and `DshotReplyStats` of crates/ferrowasp-stm32-critical/src/dshot_bank.rs (Eirik2020/ferro-wasp, commit
-- 9cb8aca1a6, Copyright (c) 2026 Kaldstrand, Apache-2.0), changed: rewritten as definitions. The fields are in groups, and the lanes in lists.
-- Assumes nothing.
use Rattle.std.specs.Prelude.{ℕ, ◌-◌, Bool, List, eqb, if◌then◌else◌}
use Rattle.std.proofs.Math.Option.{Option, none, some}
use Rattle.dshot_reply_spec.specs.Answer.{Answer}
use Rattle.dshot_reply_spec.specs.Value.{Reading}
use Rattle.dshot_spec.specs.Timing.{Timing}
use Rattle.dshot_spec.specs.Command.{CommandRun}

-- the fields requested_values, lease_started_ms, lease_duration_ms
pub record Demand : Type 0 where
  pub requested_values : List ℕ
  pub lease_started_ms : ℕ
  pub lease_duration_ms : Option ℕ

-- The code keeps a lease as one number, and the Rust as an `Option<u32>`. 0 is no lease. Any other number is the duration + 1.
abbrev pub lease_of : ℕ → Option ℕ
lease_of over = if eqb over 0 then none else some (over - 1)

-- the fields telemetry_request, telemetry_request_sent
pub record Telemetry : Type 0 where
  pub request : Option ℕ
  pub request_sent : Option ℕ

-- what the field command_sequence holds: a motor and its run
pub record MotorRun : Type 0 where
  pub motor : ℕ
  pub sequence : CommandRun

-- The fields frame_started_ms, completion_mask, busy, faulted, bidirectional, receiving, replies_waiting. `replies_held` says whether the field
-- `replies` holds some. `in_second` is the lanes' marks: if it is set, the lane sends from the second buffer, and the first is its spare.
pub record Frame : Type 0 where
  pub started_ms : ℕ
  pub completion_mask : ℕ
  pub busy : Bool
  pub faulted : Bool
  pub bidirectional : Bool
  pub receiving : Bool
  pub replies_waiting : Bool
  pub replies_held : Bool
  pub in_second : List Bool

-- the field stats
pub record Stats : Type 0 where
  pub frames_started : ℕ
  pub frames_completed : ℕ
  pub lane_completions : List ℕ
  pub busy_skips : ℕ
  pub lease_expiries : ℕ
  pub frame_timeouts : ℕ
  pub dma_faults : ℕ
  pub spurious_interrupts : ℕ

-- all of the bank except the replies and their counts: what no capture may touch
pub record Core : Type 0 where
  pub timing : Timing
  pub demand : Demand
  pub telemetry : Telemetry
  pub command_sequence : Option MotorRun
  pub frame : Frame
  pub stats : Stats

-- One lane's last reply, and its part of the field reply_stats. The reply stays here when it is taken.
pub record LaneReply : Type 0 where
  pub reply : Answer Reading
  pub valid : ℕ
  pub invalid : ℕ
  pub consecutive_invalid : ℕ

-- the whole bank
pub record Bank : Type 0 where
  pub core : Core
  pub replies : List LaneReply

-- the two lent buffers
pub record Buffers : Type 0 where
  pub first : List ℕ
  pub second : List ℕ
