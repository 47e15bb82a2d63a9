-- What the code's answers mean in the terms of the definitions. Each case of an enum gets document 01's number and values, and each struct its
-- fields.
-- Assumes nothing.
use Rattle.std.specs.Prelude.{ℕ, List, map, Option, Some, None, Result}
use Rattle.dshot_reply_spec.specs.Answer.{Answer}
use Rattle.dshot_reply_spec.specs.Refusals.{zero_timer_clock, zero_bitrate, period_too_short, period_too_long, value_out_of_range, wrong_length, wrong_duty, wrong_packet_checksum}
use Rattle.dshot_reply.specs.Answers.{answer, status}
use Rattle.dshot_reply.specs.declared.refusals.WrongLength.{WrongLength}
use Rattle.dshot_spec.specs.Packet.{Kind, plain, inverted}
use Rattle.dshot_spec.specs.Packet as Packet
use Rattle.dshot_spec.specs.Timing.{Timing}
use Rattle.dshot_spec.specs.Command.{CommandRun, Command, send, Next}
use Rattle.dshot.specs.declared.DshotFrameError.{DshotFrameError}
use Rattle.dshot.specs.declared.DshotFrameError.TheVariants.{ValueOutOfRange}
use Rattle.dshot.specs.declared.DshotPacket.{DshotPacket}
use Rattle.dshot.specs.declared.ChecksumKind.{ChecksumKind}
use Rattle.dshot.specs.declared.ChecksumKind.TheVariants.{Plain, Inverted}
use Rattle.dshot.specs.declared.DshotTimingError.{DshotTimingError}
use Rattle.dshot.specs.declared.DshotTimingError.TheVariants.{ZeroTimerClock, ZeroBitrate, PeriodTooShort, PeriodTooLong}
use Rattle.dshot.specs.declared.DshotTiming.{DshotTiming}
use Rattle.dshot.specs.declared.DshotCommandSequence.{DshotCommandSequence}
use Rattle.dshot.specs.declared.read.FrameReadError.{FrameReadError}
use Rattle.dshot.specs.declared.read.FrameReadError.TheVariants as FrameReadError·
use Rattle.dshot.specs.declared.read.Frame.{Frame}

-- ---- packets

-- the number of a `DshotFrameError`
abbrev pub frame_error_number : DshotFrameError → ℕ
frame_error_number ValueOutOfRange = value_out_of_range

-- what `try_from_value` answers
abbrev pub packet_answer : Result DshotPacket DshotFrameError → Answer ℕ
packet_answer = answer (λ (p : DshotPacket). p.0) frame_error_number

-- the kind of a checksum
abbrev pub kind_of : ChecksumKind → Kind
kind_of Plain = plain
kind_of Inverted = inverted

-- the words of some packets
abbrev pub words : List DshotPacket → List ℕ
words packets = map (λ (p : DshotPacket). p.0) packets

-- the lane that is asked for telemetry, if any
abbrev pub lane_of : Option ℕ → Packet.TelemetryLane
lane_of None = Packet.none
lane_of (Some n) = Packet.lane n

-- ---- timing

-- the number of a `DshotTimingError`
abbrev pub timing_error_number : DshotTimingError → ℕ
timing_error_number ZeroTimerClock = zero_timer_clock
timing_error_number ZeroBitrate = zero_bitrate
timing_error_number PeriodTooShort = period_too_short
timing_error_number PeriodTooLong = period_too_long

-- the counts of a `DshotTiming`
abbrev pub timing_of : DshotTiming → Timing
timing_of t = record { arr = t.arr; zero_high = t.zero_high; one_high = t.one_high; reply_sample_arr = t.reply_sample_arr }

-- what `from_clocks` answers
abbrev pub timing_answer : Result DshotTiming DshotTimingError → Answer Timing
timing_answer = answer timing_of timing_error_number

-- ---- duties

-- the number of a `WrongLength`
abbrev pub encode_error_number : WrongLength → ℕ
encode_error_number e = wrong_length

-- the number of a refusal; 0 if the buffer was filled
abbrev pub encoded_number : Result Unit WrongLength → ℕ
encoded_number = status encode_error_number

-- the first duty of a sequence
abbrev pub first_answer : Result ℕ WrongLength → Answer ℕ
first_answer = answer (λ d. d) encode_error_number

-- ---- commands

-- the fields of a `DshotCommandSequence`
abbrev pub run_of : DshotCommandSequence → CommandRun
run_of s = record { commands = s.commands; index = s.index; repeats_left = s.repeats_left }

-- the command of a frame, if there is one
abbrev pub command_of : Option ℕ → Command
command_of None = Command.none
command_of (Some v) = send v

-- what `next_value` answers, and the run that it leaves
abbrev pub next_of : Option ℕ → DshotCommandSequence → Next
next_of value run = record { command = command_of value; run = run_of run }

-- ---- the readers

-- the number of a reader's refusal
abbrev pub read_error_number : FrameReadError → ℕ
read_error_number FrameReadError·.WrongLength = wrong_length
read_error_number FrameReadError·.WrongDuty = wrong_duty
read_error_number FrameReadError·.Checksum = wrong_packet_checksum

-- what a packet or a sequence says
abbrev pub frame_told : Frame → Packet.Frame
frame_told f = record { value = f.value; telemetry = f.telemetry; kind = kind_of f.checksum }

-- what a reader answers
abbrev pub frame_answer : Result Frame FrameReadError → Answer Packet.Frame
frame_answer = answer frame_told read_error_number
