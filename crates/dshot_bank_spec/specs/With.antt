-- A record of the bank with one field replaced.
-- Stands for the Rust's assignments to a field of `self`.
-- Assumes nothing.
use Rattle.std.specs.Prelude.{ℕ, Bool, List}
use Rattle.std.proofs.Math.Option.{Option}
use Rattle.dshot_bank_spec.specs.State.{Demand, Telemetry, MotorRun, Frame, Stats, Core, Bank}

abbrev pub with_frames_started : ℕ → Stats → Stats
with_frames_started v r = record { frames_started = v; frames_completed = r.frames_completed; lane_completions = r.lane_completions; busy_skips = r.busy_skips; lease_expiries = r.lease_expiries; frame_timeouts = r.frame_timeouts; dma_faults = r.dma_faults; spurious_interrupts = r.spurious_interrupts }

abbrev pub with_frames_completed : ℕ → Stats → Stats
with_frames_completed v r = record { frames_started = r.frames_started; frames_completed = v; lane_completions = r.lane_completions; busy_skips = r.busy_skips; lease_expiries = r.lease_expiries; frame_timeouts = r.frame_timeouts; dma_faults = r.dma_faults; spurious_interrupts = r.spurious_interrupts }

abbrev pub with_lane_completions : List ℕ → Stats → Stats
with_lane_completions v r = record { frames_started = r.frames_started; frames_completed = r.frames_completed; lane_completions = v; busy_skips = r.busy_skips; lease_expiries = r.lease_expiries; frame_timeouts = r.frame_timeouts; dma_faults = r.dma_faults; spurious_interrupts = r.spurious_interrupts }

abbrev pub with_busy_skips : ℕ → Stats → Stats
with_busy_skips v r = record { frames_started = r.frames_started; frames_completed = r.frames_completed; lane_completions = r.lane_completions; busy_skips = v; lease_expiries = r.lease_expiries; frame_timeouts = r.frame_timeouts; dma_faults = r.dma_faults; spurious_interrupts = r.spurious_interrupts }

abbrev pub with_lease_expiries : ℕ → Stats → Stats
with_lease_expiries v r = record { frames_started = r.frames_started; frames_completed = r.frames_completed; lane_completions = r.lane_completions; busy_skips = r.busy_skips; lease_expiries = v; frame_timeouts = r.frame_timeouts; dma_faults = r.dma_faults; spurious_interrupts = r.spurious_interrupts }

abbrev pub with_frame_timeouts : ℕ → Stats → Stats
with_frame_timeouts v r = record { frames_started = r.frames_started; frames_completed = r.frames_completed; lane_completions = r.lane_completions; busy_skips = r.busy_skips; lease_expiries = r.lease_expiries; frame_timeouts = v; dma_faults = r.dma_faults; spurious_interrupts = r.spurious_interrupts }

abbrev pub with_dma_faults : ℕ → Stats → Stats
with_dma_faults v r = record { frames_started = r.frames_started; frames_completed = r.frames_completed; lane_completions = r.lane_completions; busy_skips = r.busy_skips; lease_expiries = r.lease_expiries; frame_timeouts = r.frame_timeouts; dma_faults = v; spurious_interrupts = r.spurious_interrupts }

abbrev pub with_spurious_interrupts : ℕ → Stats → Stats
with_spurious_interrupts v r = record { frames_started = r.frames_started; frames_completed = r.frames_completed; lane_completions = r.lane_completions; busy_skips = r.busy_skips; lease_expiries = r.lease_expiries; frame_timeouts = r.frame_timeouts; dma_faults = r.dma_faults; spurious_interrupts = v }

abbrev pub with_started_ms : ℕ → Frame → Frame
with_started_ms v r = record { started_ms = v; completion_mask = r.completion_mask; busy = r.busy; faulted = r.faulted; bidirectional = r.bidirectional; receiving = r.receiving; replies_waiting = r.replies_waiting; replies_held = r.replies_held; in_second = r.in_second }

abbrev pub with_completion_mask : ℕ → Frame → Frame
with_completion_mask v r = record { started_ms = r.started_ms; completion_mask = v; busy = r.busy; faulted = r.faulted; bidirectional = r.bidirectional; receiving = r.receiving; replies_waiting = r.replies_waiting; replies_held = r.replies_held; in_second = r.in_second }

abbrev pub with_busy : Bool → Frame → Frame
with_busy v r = record { started_ms = r.started_ms; completion_mask = r.completion_mask; busy = v; faulted = r.faulted; bidirectional = r.bidirectional; receiving = r.receiving; replies_waiting = r.replies_waiting; replies_held = r.replies_held; in_second = r.in_second }

abbrev pub with_faulted : Bool → Frame → Frame
with_faulted v r = record { started_ms = r.started_ms; completion_mask = r.completion_mask; busy = r.busy; faulted = v; bidirectional = r.bidirectional; receiving = r.receiving; replies_waiting = r.replies_waiting; replies_held = r.replies_held; in_second = r.in_second }

abbrev pub with_bidirectional : Bool → Frame → Frame
with_bidirectional v r = record { started_ms = r.started_ms; completion_mask = r.completion_mask; busy = r.busy; faulted = r.faulted; bidirectional = v; receiving = r.receiving; replies_waiting = r.replies_waiting; replies_held = r.replies_held; in_second = r.in_second }

abbrev pub with_receiving : Bool → Frame → Frame
with_receiving v r = record { started_ms = r.started_ms; completion_mask = r.completion_mask; busy = r.busy; faulted = r.faulted; bidirectional = r.bidirectional; receiving = v; replies_waiting = r.replies_waiting; replies_held = r.replies_held; in_second = r.in_second }

abbrev pub with_replies_waiting : Bool → Frame → Frame
with_replies_waiting v r = record { started_ms = r.started_ms; completion_mask = r.completion_mask; busy = r.busy; faulted = r.faulted; bidirectional = r.bidirectional; receiving = r.receiving; replies_waiting = v; replies_held = r.replies_held; in_second = r.in_second }

abbrev pub with_replies_held : Bool → Frame → Frame
with_replies_held v r = record { started_ms = r.started_ms; completion_mask = r.completion_mask; busy = r.busy; faulted = r.faulted; bidirectional = r.bidirectional; receiving = r.receiving; replies_waiting = r.replies_waiting; replies_held = v; in_second = r.in_second }

abbrev pub with_in_second : List Bool → Frame → Frame
with_in_second v r = record { started_ms = r.started_ms; completion_mask = r.completion_mask; busy = r.busy; faulted = r.faulted; bidirectional = r.bidirectional; receiving = r.receiving; replies_waiting = r.replies_waiting; replies_held = r.replies_held; in_second = v }

abbrev pub with_demand : Demand → Core → Core
with_demand v r = record { timing = r.timing; demand = v; telemetry = r.telemetry; command_sequence = r.command_sequence; frame = r.frame; stats = r.stats }

abbrev pub with_telemetry : Telemetry → Core → Core
with_telemetry v r = record { timing = r.timing; demand = r.demand; telemetry = v; command_sequence = r.command_sequence; frame = r.frame; stats = r.stats }

abbrev pub with_command_sequence : Option MotorRun → Core → Core
with_command_sequence v r = record { timing = r.timing; demand = r.demand; telemetry = r.telemetry; command_sequence = v; frame = r.frame; stats = r.stats }

abbrev pub with_frame : Frame → Core → Core
with_frame v r = record { timing = r.timing; demand = r.demand; telemetry = r.telemetry; command_sequence = r.command_sequence; frame = v; stats = r.stats }

abbrev pub with_stats : Stats → Core → Core
with_stats v r = record { timing = r.timing; demand = r.demand; telemetry = r.telemetry; command_sequence = r.command_sequence; frame = r.frame; stats = v }

abbrev pub with_core : Core → Bank → Bank
with_core v r = record { core = v; replies = r.replies }
