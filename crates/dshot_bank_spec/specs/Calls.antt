-- One call of a bank, of any kind, if the port does not refuse it. It is a call of the source, the view, or the caller lending other buffers.
-- Stands for the calls of `DshotBank` of crates/ferrowasp-stm32-critical/src/dshot_bank.rs (Eirik2020/ferro-wasp, commit 9cb8aca1a6, Copyright (c)
-- 2026 Kaldstrand, Apache-2.0), changed: rewritten as definitions. The looks and `take_replies` are transcribed here, the others in their own files.
-- Assumes nothing.
use Rattle.std.specs.Prelude.{ℕ, Bool, false, List, map, get_or, if◌then◌else◌}
use Rattle.std.proofs.Math.Option.{Option, none, some}
use Rattle.dshot_reply_spec.specs.Answer.{given}
use Rattle.dshot_reply_spec.specs.Answer as Reply
use Rattle.dshot_reply_spec.specs.Value.{Reading}
use Rattle.dshot_spec.specs.Command.{CommandRun}
use Rattle.dshot_spec.specs.Tabulate.{part}
use Rattle.dshot_bank_spec.specs.Lanes.{is_some}
use Rattle.dshot_bank_spec.specs.State.{Stats, Core, LaneReply, Bank, Buffers}
use Rattle.dshot_bank_spec.specs.With.{with_frame, with_replies_held, with_core}
use Rattle.dshot_bank_spec.specs.Order.{Order}
use Rattle.dshot_bank_spec.specs.Commands.{enable_bidirectional, command_stop, command_throttles, command_special, request_telemetry, cancel_telemetry_request, clear_request_sent}
use Rattle.dshot_bank_spec.specs.Service.{ServiceEvent, Served, service}
use Rattle.dshot_bank_spec.specs.Interrupt.{InterruptEvent, Interrupted, on_dma_interrupt}

-- A call with its arguments, its clock, the hardware's answers and the captures. The calls from `is_bidirectional` to `sending` only look. `lend` is
-- no call of the bank: between two calls the caller may write the lent buffers, or lend others.
pub data Call : Type 0 where
  enable_bidirectional_call : (receives : Bool) → Call
  command_stop_call : Call
  command_throttles_call : (commands : List ℕ) (now lease : ℕ) → Call
  command_special_call : (motor : ℕ) (sequence : CommandRun) → Call
  request_telemetry_call : (motor : ℕ) → Call
  cancel_telemetry_request_call : Call
  take_telemetry_request_sent : Call
  service_call : (now : ℕ) (taken present : List Bool) (masks samples : List ℕ) → Call
  on_dma_interrupt_call : (motor : ℕ) (complete error turned back : Bool) → Call
  take_replies : Call
  is_bidirectional : Call
  is_faulted : Call
  stats : Call
  requested_values_call : Call
  command_pending_call : Call
  reply_stats : Call
  sending : (motor : ℕ) → Call
  lend : (buffers : Buffers) → Call

-- the Rust's `DshotReplyStats`: each count by lane
pub record ReplyStats : Type 0 where
  pub valid : List ℕ
  pub invalid : List ℕ
  pub consecutive_invalid : List ℕ

-- what a call answers
pub data Answer : Type 0 where
  done : Answer
  refused : (number : ℕ) → Answer
  motor_sent : Option ℕ → Answer
  serviced : (event : ServiceEvent) (orders : List Order) (in_second : List Bool) → Answer
  interrupted : InterruptEvent → List Order → Answer
  replied : Option (List (Reply.Answer Reading)) → Answer
  flag : Bool → Answer
  counts : Stats → Answer
  values : List ℕ → Answer
  reply_counts : ReplyStats → Answer
  slots : List ℕ → Answer

-- the bank and the lent buffers
pub record State : Type 0 where
  pub bank : Bank
  pub buffers : Buffers

-- what a call answers, and what it leaves
pub record Stepped : Type 0 where
  pub answer : Answer
  pub state : State

-- ---- what a call does if the port does not refuse it

-- each lane's reply
abbrev pub replies_of : List LaneReply → List (Reply.Answer Reading)
replies_of lanes = map (λ (l : LaneReply). l.reply) lanes

-- each lane's reply counts
abbrev pub reply_stats_of : List LaneReply → ReplyStats
reply_stats_of lanes = record {
  valid = map (λ (l : LaneReply). l.valid) lanes;
  invalid = map (λ (l : LaneReply). l.invalid) lanes;
  consecutive_invalid = map (λ (l : LaneReply). l.consecutive_invalid) lanes;
}

-- the core after the Rust's `self.replies.take()`
abbrev pub replies_taken : Core → Core
replies_taken c = with_frame (with_replies_held false c.frame) c

-- the sequence that a lane is sending, out of the buffer that its mark names
abbrev pub sequence_sent : Core → Buffers → ℕ → List ℕ
sequence_sent c b motor = part 16 motor (if get_or c.frame.in_second motor false then b.second else b.first)

-- an answer, with the state as it was
abbrev pub told : State → Answer → Stepped
told s a = record { answer = a; state = s }

-- an answer, with another core
abbrev pub changed : State → Answer → Core → Stepped
changed s a c = record { answer = a; state = record { bank = with_core c s.bank; buffers = s.buffers } }

-- done with a core, or refused
abbrev pub commanded : State → Reply.Answer Core → Stepped
commanded s (given c) = changed s done c
commanded s (Reply.refused k) = told s (refused k)

-- The answer of a service has the marks before the call beside the orders. They say which buffer the source hands to `exchange_buffer`: the lane's
-- spare.
abbrev pub served_step : State → Served → Stepped
served_step s r = record { answer = serviced r.event r.orders s.bank.core.frame.in_second; state = record { bank = r.bank; buffers = r.buffers } }

abbrev pub interrupted_step : State → Interrupted → Stepped
interrupted_step s r = changed s (interrupted r.event r.orders) r.core

-- What each call does. All calls except the last two are the source's.
abbrev pub act : ℕ → State → Call → Stepped
act n s (enable_bidirectional_call receives) = commanded s (enable_bidirectional receives s.bank.core)
act n s command_stop_call = changed s done (command_stop n s.bank.core)
act n s (command_throttles_call commands now lease) = commanded s (command_throttles n commands now lease s.bank.core)
act n s (command_special_call motor sequence) = commanded s (command_special motor sequence s.bank.core)
act n s (request_telemetry_call motor) = commanded s (request_telemetry motor s.bank.core)
act n s cancel_telemetry_request_call = changed s done (cancel_telemetry_request s.bank.core)
act n s take_telemetry_request_sent = changed s (motor_sent s.bank.core.telemetry.request_sent) (clear_request_sent s.bank.core)
act n s (service_call now taken present masks samples) = served_step s (service n now taken present masks samples s.bank s.buffers)
act n s (on_dma_interrupt_call motor complete error turned back) = interrupted_step s (on_dma_interrupt n motor complete error turned back s.bank.core)
act n s take_replies = changed s (replied (if s.bank.core.frame.replies_held then some (replies_of s.bank.replies) else none)) (replies_taken s.bank.core)
act n s is_bidirectional = told s (flag s.bank.core.frame.bidirectional)
act n s is_faulted = told s (flag s.bank.core.frame.faulted)
act n s stats = told s (counts s.bank.core.stats)
act n s requested_values_call = told s (values s.bank.core.demand.requested_values)
act n s command_pending_call = told s (flag (is_some s.bank.core.command_sequence))
act n s reply_stats = told s (reply_counts (reply_stats_of s.bank.replies))
act n s (sending motor) = told s (slots (sequence_sent s.bank.core s.buffers motor))
act n s (lend buffers) = record { answer = done; state = record { bank = s.bank; buffers = buffers } }
