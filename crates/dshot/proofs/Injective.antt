-- The definitions that give each enum and struct document 01's numbers and values are injective. So the equation of a promise determines the answer.
-- Assumes nothing.
use Rattle.std.proofs.Common.{◌≡◌, ℕ, eqb, List, [], ◌∷◌, map, false, Option, Some, None, Result, refl, ap}
use Rattle.dshot_reply_spec.proofs.Inverse.{injective}
use Rattle.dshot_reply_spec.specs.Answer.{pick}
use Rattle.dshot_reply.proofs.Injective.{answer-injective, status-injective}
use Rattle.dshot_reply.specs.declared.refusals.WrongLength.{WrongLength}
use Rattle.dshot_spec.specs.Packet.{Kind, plain, inverted}
use Rattle.dshot_spec.specs.Packet as Packet
use Rattle.dshot_spec.specs.Timing.{Timing}
use Rattle.dshot_spec.specs.Command.{CommandRun, Command, send, Next}
use Rattle.dshot.specs.Answers.{frame_error_number, packet_answer, kind_of, words, lane_of, timing_error_number, timing_of, timing_answer, encode_error_number, encoded_number, first_answer, run_of, command_of, next_of, read_error_number, frame_told, frame_answer}
use Rattle.dshot.specs.declared.DshotFrameError.{DshotFrameError}
use Rattle.dshot.specs.declared.DshotFrameError.TheVariants.{ValueOutOfRange}
use Rattle.dshot.specs.declared.DshotPacket.{DshotPacket}
use Rattle.dshot.specs.declared.ChecksumKind.{ChecksumKind}
use Rattle.dshot.specs.declared.ChecksumKind.TheVariants.{Plain, Inverted}
use Rattle.dshot.specs.declared.DshotTimingError.{DshotTimingError}
use Rattle.dshot.specs.declared.DshotTimingError.TheVariants.{ZeroTimerClock, ZeroBitrate, PeriodTooShort, PeriodTooLong}
use Rattle.dshot.specs.declared.DshotTiming.{DshotTiming}
use Rattle.dshot.specs.declared.DshotCommandSequence.{DshotCommandSequence}
use Rattle.dshot.specs.declared.read.FrameReadError.{FrameReadError}
use Rattle.dshot.specs.declared.read.FrameReadError.TheVariants as Error
use Rattle.dshot.specs.declared.read.Frame.{Frame}

-- ---- packets

frame_error_of : ℕ → DshotFrameError
frame_error_of n = ValueOutOfRange

frame-error-back : (e : DshotFrameError) → frame_error_of (frame_error_number e) ≡ e
unfolding frame_error_of
frame-error-back ValueOutOfRange = refl

pub frame_error_number-injective : (e f : DshotFrameError) → frame_error_number e ≡ frame_error_number f → e ≡ f
frame_error_number-injective = injective frame_error_number frame_error_of frame-error-back

packet_of : ℕ → DshotPacket
packet_of w = record { 0 = w }

packet-back : (p : DshotPacket) → packet_of p.0 ≡ p
unfolding packet_of
packet-back p = refl

pub packet_answer-injective : (p q : Result DshotPacket DshotFrameError) → packet_answer p ≡ packet_answer q → p ≡ q
packet_answer-injective = answer-injective (λ (p : DshotPacket). p.0) packet_of frame_error_number frame_error_of packet-back frame-error-back

checksum_kind_of : Kind → ChecksumKind
checksum_kind_of plain = Plain
checksum_kind_of inverted = Inverted

kind-back : (k : ChecksumKind) → checksum_kind_of (kind_of k) ≡ k
unfolding checksum_kind_of
kind-back Plain = refl
kind-back Inverted = refl

pub kind_of-injective : (k l : ChecksumKind) → kind_of k ≡ kind_of l → k ≡ l
kind_of-injective = injective kind_of checksum_kind_of kind-back

words_back : (ps : List DshotPacket) → map packet_of (words ps) ≡ ps
words_back [] = refl
words_back (p ∷ ps) = λ j. packet-back p j ∷ words_back ps j

pub words-injective : (ps qs : List DshotPacket) → words ps ≡ words qs → ps ≡ qs
words-injective = injective words (map packet_of) words_back

telemetry_lane_of : Packet.TelemetryLane → Option ℕ
telemetry_lane_of Packet.none = None
telemetry_lane_of (Packet.lane n) = Some n

lane-back : (l : Option ℕ) → telemetry_lane_of (lane_of l) ≡ l
unfolding telemetry_lane_of
lane-back None = refl
lane-back (Some n) = refl

pub lane_of-injective : (l m : Option ℕ) → lane_of l ≡ lane_of m → l ≡ m
lane_of-injective = injective lane_of telemetry_lane_of lane-back

-- ---- timing

timing_error_of : ℕ → DshotTimingError
timing_error_of n = pick (eqb n 1) ZeroTimerClock (pick (eqb n 2) ZeroBitrate (pick (eqb n 3) PeriodTooShort PeriodTooLong))

timing-error-back : (e : DshotTimingError) → timing_error_of (timing_error_number e) ≡ e
unfolding timing_error_of
timing-error-back ZeroTimerClock = refl
timing-error-back ZeroBitrate = refl
timing-error-back PeriodTooShort = refl
timing-error-back PeriodTooLong = refl

pub timing_error_number-injective : (e f : DshotTimingError) → timing_error_number e ≡ timing_error_number f → e ≡ f
timing_error_number-injective = injective timing_error_number timing_error_of timing-error-back

dshot_timing_of : Timing → DshotTiming
dshot_timing_of t = record { arr = t.arr; zero_high = t.zero_high; one_high = t.one_high; reply_sample_arr = t.reply_sample_arr }

timing-back : (t : DshotTiming) → dshot_timing_of (timing_of t) ≡ t
unfolding dshot_timing_of
timing-back t = refl

pub timing_of-injective : (t u : DshotTiming) → timing_of t ≡ timing_of u → t ≡ u
timing_of-injective = injective timing_of dshot_timing_of timing-back

pub timing_answer-injective : (t u : Result DshotTiming DshotTimingError) → timing_answer t ≡ timing_answer u → t ≡ u
timing_answer-injective = answer-injective timing_of dshot_timing_of timing_error_number timing_error_of timing-back timing-error-back

-- ---- duties

encode_error_of : ℕ → WrongLength
encode_error_of n = record {}

encode-error-back : (e : WrongLength) → encode_error_of (encode_error_number e) ≡ e
unfolding encode_error_of
encode-error-back e = refl

encode-error-positive : (e : WrongLength) → eqb (encode_error_number e) 0 ≡ false
encode-error-positive e = refl

pub encode_error_number-injective : (e f : WrongLength) → encode_error_number e ≡ encode_error_number f → e ≡ f
encode_error_number-injective = injective encode_error_number encode_error_of encode-error-back

pub encoded_number-injective : (e f : Result Unit WrongLength) → encoded_number e ≡ encoded_number f → e ≡ f
encoded_number-injective = status-injective encode_error_number encode_error_of encode-error-positive encode-error-back

pub first_answer-injective : (s t : Result ℕ WrongLength) → first_answer s ≡ first_answer t → s ≡ t
first_answer-injective = answer-injective (λ d. d) (λ d. d) encode_error_number encode_error_of (λ d. refl) encode-error-back

-- ---- commands

sequence_of_run : CommandRun → DshotCommandSequence
sequence_of_run r = record { commands = r.commands; index = r.index; repeats_left = r.repeats_left }

run-back : (s : DshotCommandSequence) → sequence_of_run (run_of s) ≡ s
unfolding sequence_of_run
run-back s = refl

pub run_of-injective : (s t : DshotCommandSequence) → run_of s ≡ run_of t → s ≡ t
run_of-injective = injective run_of sequence_of_run run-back

command_value_of : Command → Option ℕ
command_value_of Command.none = None
command_value_of (send v) = Some v

command-back : (v : Option ℕ) → command_value_of (command_of v) ≡ v
unfolding command_value_of
command-back None = refl
command-back (Some v) = refl

pub command_of-injective : (v w : Option ℕ) → command_of v ≡ command_of w → v ≡ w
command_of-injective = injective command_of command_value_of command-back

pub next_of-injective : (v w : Option ℕ) (s t : DshotCommandSequence) → next_of v s ≡ next_of w t → (v ≡ w) × (s ≡ t)
next_of-injective v w s t e =
    (command_of-injective v w (ap (λ (n : Next). n.command) e), run_of-injective s t (ap (λ (n : Next). n.run) e))

-- ---- the readers

read_error_of : ℕ → FrameReadError
read_error_of n = pick (eqb n 13) Error.WrongLength (pick (eqb n 14) Error.WrongDuty Error.Checksum)

read-error-back : (e : FrameReadError) → read_error_of (read_error_number e) ≡ e
unfolding read_error_of
read-error-back Error.WrongLength = refl
read-error-back Error.WrongDuty = refl
read-error-back Error.Checksum = refl

pub read_error_number-injective : (e f : FrameReadError) → read_error_number e ≡ read_error_number f → e ≡ f
read_error_number-injective = injective read_error_number read_error_of read-error-back

frame_of_told : Packet.Frame → Frame
frame_of_told f = record { value = f.value; telemetry = f.telemetry; checksum = checksum_kind_of f.kind }

frame-back : (f : Frame) → frame_of_told (frame_told f) ≡ f
unfolding frame_of_told
frame-back f = ap (λ (k : ChecksumKind). record { value = f.value; telemetry = f.telemetry; checksum = k }) (kind-back f.checksum)

pub frame_answer-injective : (r s : Result Frame FrameReadError) → frame_answer r ≡ frame_answer s → r ≡ s
frame_answer-injective = answer-injective frame_told frame_of_told read_error_number read_error_of frame-back read-error-back
