-- How a timing, a command run, a command and a frame lie in slots. Added: document 01 asks for calls from C.
-- Assumes nothing.
use Rattle.std.specs.Prelude.{ℕ, List, [], ◌∷◌, ltb, get_or, if◌then◌else◌}
use Rattle.dshot_reply_spec.specs.Answer.{Answer, refused}
use Rattle.dshot_reply_spec.specs.Refusals.{wrong_packet_checksum}
use Rattle.dshot_spec.specs.Packet.{Kind, plain, inverted, Frame, flag, read_packet}
use Rattle.dshot_spec.specs.Timing.{Timing}
use Rattle.dshot_spec.specs.Command.{CommandRun, Command, none, send}

-- a timing in four slots
abbrev pub timing_slots : Timing → List ℕ
timing_slots t = t.arr ∷ t.zero_high ∷ t.one_high ∷ t.reply_sample_arr ∷ []

-- the timing in four slots
abbrev pub timing_at : List ℕ → Timing
timing_at xs = record { arr = get_or xs 0 0; zero_high = get_or xs 1 0; one_high = get_or xs 2 0; reply_sample_arr = get_or xs 3 0 }

-- a run of two commands in four slots
abbrev pub run_slots : CommandRun → List ℕ
run_slots r = get_or r.commands 0 0 ∷ get_or r.commands 1 0 ∷ r.index ∷ r.repeats_left ∷ []

-- the run of two commands in four slots
abbrev pub run_at : List ℕ → CommandRun
run_at xs = record { commands = get_or xs 0 0 ∷ get_or xs 1 0 ∷ []; index = get_or xs 2 0; repeats_left = get_or xs 3 0 }

-- a command in two slots: 1 and the command; 0 and 0 if there is none
abbrev pub command_slots : Command → List ℕ
command_slots none = 0 ∷ 0 ∷ []
command_slots (send v) = 1 ∷ v ∷ []

-- the number of a kind of checksum: 0 for plain, 1 for inverted
abbrev pub kind_number : Kind → ℕ
kind_number plain = 0
kind_number inverted = 1

-- a frame in three slots: its value, its telemetry bit and its kind of checksum
abbrev pub frame_slots : Frame → List ℕ
frame_slots f = f.value ∷ flag f.telemetry ∷ kind_number f.kind ∷ []

-- What a number says as a packet. A packet has sixteen bits. A larger number has no checksum that fits, so it is refused with 15 (packet checksum).
abbrev pub read_wide : ℕ → Answer Frame
read_wide w = if ltb 65535 w then refused wrong_packet_checksum else read_packet w
