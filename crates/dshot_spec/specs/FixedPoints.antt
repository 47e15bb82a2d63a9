-- Document 01's fixed points in one table, and what each row claims.
-- Assumes nothing.
use Rattle.std.specs.Prelude.{◌≡◌, ℕ, Bool, true, false, List, [], ◌∷◌}
use Rattle.dshot_reply_spec.specs.Answer.{Answer, given, refused}
use Rattle.dshot_reply_spec.specs.Gcr.{reply_word}
use Rattle.dshot_reply_spec.specs.Move.{Moved}
use Rattle.dshot_reply_spec.specs.Value.{Reading, erpm, state, edt, reply_of}
use Rattle.dshot_spec.specs.Packet.{Kind, plain, inverted, packet_word}
use Rattle.dshot_spec.specs.Throttle.{throttle_value}
use Rattle.dshot_spec.specs.Timing.{Timing, from_clocks}

-- the kinds of fixed points
pub data Point : Type 0 where
  -- the packet of a value and a telemetry bit
  packet : Kind → ℕ → Bool → ℕ → Point
  -- the timing of a clock and a bit rate
  timing : ℕ → ℕ → Answer Timing → Point
  -- the value of a throttle
  throttle : ℕ → ℕ → Point
  -- the reply word of a value
  word : ℕ → ℕ → Point
  -- the reading of a value, with EDT off or on
  reading : ℕ → Bool → Answer Reading → Point
  -- the words of two values; one edge moves from one bit to another between them
  moved : ℕ → ℕ → ℕ → ℕ → Point

-- what a point claims
abbrev pub Holds : Point → Type 0
Holds (packet kind v t w) = packet_word kind v t ≡ w
Holds (timing clock bitrate a) = from_clocks 3 clock bitrate ≡ a
Holds (throttle v d) = throttle_value v ≡ d
Holds (word v w) = reply_word v ≡ w
Holds (reading v extended a) = reply_of v extended ≡ a
Holds (moved v v' i j) = Moved (reply_word v) (reply_word v') i j

-- every point of a list holds
abbrev pub Hold : List Point → Type 0
Hold [] = Unit {0}
Hold (p ∷ ps) = Holds p × Hold ps

-- the answer of a timing that is given, by its counts
abbrev counts : ℕ → ℕ → ℕ → ℕ → Answer Timing
counts a z o r = given (record { arr = a; zero_high = z; one_high = o; reply_sample_arr = r })

abbrev pub fixed_points : List Point
fixed_points =
    packet plain 1046 false 0x82c6
    ∷ packet inverted 1046 false 0x82c9
    ∷ packet plain 2047 true 0xffff
    ∷ timing 168000000 600000 (counts 279 105 210 74)
    ∷ timing 5 1 (counts 4 2 4 1)
    ∷ timing 4 1 (refused 3)
    ∷ timing 65536 1 (counts 65535 24576 49152 21844)
    ∷ timing 65537 1 (refused 4)
    ∷ throttle 1 48
    ∷ throttle 1000 1047
    ∷ throttle 2000 2047
    ∷ word 0 0x1ce72f
    ∷ reading 0 false (refused 11)
    ∷ reading 0 true (refused 11)
    ∷ reading 0xe00 false (given edt)
    ∷ reading 0xe00 true (given (state 0))
    ∷ reading 0x001 false (given (erpm 600000))
    ∷ reading 0x001 true (given (erpm 600000))
    ∷ reading 0xffe false (given (erpm 9))
    ∷ reading 0xffe true (given (erpm 9))
    ∷ word 0x190 0x1da737
    ∷ word 0x800 0x1d6737
    ∷ moved 0x190 0x800 15 14
    ∷ []
