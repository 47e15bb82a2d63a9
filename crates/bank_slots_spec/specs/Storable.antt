-- The banks that the library's types can hold, with the debug channels that the reader gives.
-- Added: document 01 asks for calls from C.
-- Assumes nothing.
use Rattle.std.specs.Prelude.{ℕ, ◌+◌, ◌^◌, ◌<◌, ◌≤◌, ◌≡◌, List, length, get_or}
use Rattle.std.proofs.Math.Option.{Option, none, some}
use Rattle.dshot_reply_spec.specs.Answer.{Answer, given, refused}
use Rattle.dshot_reply_spec.specs.Value.{Reading, erpm, temp, volt, amp, debug, state, edt}
use Rattle.dshot_bank_spec.specs.State.{MotorRun, Bank}
use Rattle.dshot_bank_spec.specs.Commands.{no_replies}
use Rattle.bank_slots_spec.specs.Memory.{at}

-- Every slot has 16 bits.
abbrev pub Below : List ℕ → Type 0
Below xs = (i : ℕ) → at xs i < 65536

abbrev pub ChoiceFits : Option ℕ → Type 0
ChoiceFits none = Unit
ChoiceFits (some lane) = lane < 4

abbrev pub LeaseFits : Option ℕ → Type 0
LeaseFits none = Unit
LeaseFits (some duration) = duration + 1 < 2 ^ 64

pub record RunFits (r : MotorRun) : Type 0 where
  pub motor : r.motor < 4
  pub two : length r.sequence.commands ≡ 2
  pub index : r.sequence.index < 256
  pub left : r.sequence.repeats_left < 256

abbrev pub SequenceFits : Option MotorRun → Type 0
SequenceFits none = Unit
SequenceFits (some r) = RunFits r

abbrev pub ReplyFits : Answer Reading → Type 0
ReplyFits (given (erpm n)) = Unit
ReplyFits (given (temp n)) = n < 256
ReplyFits (given (volt n)) = n < 256
ReplyFits (given (amp n)) = n < 256
ReplyFits (given (debug channel n)) = (1 ≤ channel) × (channel ≤ 3) × (n < 256)
ReplyFits (given (state n)) = n < 256
ReplyFits (given edt) = Unit
ReplyFits (refused number) = (7 ≤ number) × (number ≤ 11)

-- A bank of four lanes that the library's types can hold. Its debug channels are 1 to 3, since the reader gives no other. Numbers of 16 and 32 bits
-- are not bounded here: they come back whatever they are.
pub record Storable (b : Bank) : Type 0 where
  pub values : length b.core.demand.requested_values ≡ 4
  pub lease_started : b.core.demand.lease_started_ms < 2 ^ 64
  pub lease_duration : LeaseFits b.core.demand.lease_duration_ms
  pub request : ChoiceFits b.core.telemetry.request
  pub sent : ChoiceFits b.core.telemetry.request_sent
  pub run : SequenceFits b.core.command_sequence
  pub started : b.core.frame.started_ms < 2 ^ 64
  pub marks : length b.core.frame.in_second ≡ 4
  pub completions : length b.core.stats.lane_completions ≡ 4
  pub lanes : length b.replies ≡ 4
  pub replies : (i : ℕ) → ReplyFits (get_or b.replies i no_replies).reply
