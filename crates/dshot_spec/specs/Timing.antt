-- The timer counts of a frame and of the sampling of replies, from the timer's clock and the bit rate.
-- Stands for `DshotTiming` of crates/ferrowasp-output/src/dshot.rs (Eirik2020/ferro-wasp, commit 9cb8aca1a6, Copyright (c) 2026 Kaldstrand,
-- Apache-2.0), changed: rewritten as a definition, with document 01's formulas.
-- Assumes nothing.
use Rattle.std.specs.Prelude.{◌≡◌, ℕ, ◌-◌, ◌*◌, ◌/◌, ◌<◌, ◌≤◌, Bool, ◌==◌, nat_lt, if◌then◌else◌}
use Rattle.dshot_reply_spec.specs.Answer.{Answer, given, refused}
use Rattle.dshot_reply_spec.specs.Refusals.{zero_timer_clock, zero_bitrate, period_too_short, period_too_long}
use Rattle.dshot_reply_spec.specs.Nearest.{nearest}

-- the counts of `DshotTiming`: a bit's period - 1, the high times of a 0 and of a 1, and the reply samples' period - 1
pub record Timing : Type 0 where
  pub arr : ℕ
  pub zero_high : ℕ
  pub one_high : ℕ
  pub reply_sample_arr : ℕ

-- the rate of reply samples at s samples a bit; replies come at 5/4 of the bit rate
abbrev pub reply_sample_hz : ℕ → ℕ → ℕ
reply_sample_hz s bitrate = bitrate * (5 * s) / 4

-- the counts of a period p and a reply sample period q
abbrev pub counts_of : ℕ → ℕ → Timing
counts_of p q = record { arr = p - 1; zero_high = nearest (3 * p) 8; one_high = nearest (3 * p) 4; reply_sample_arr = q - 1 }

-- the counts of a period p and a reply sample period q, or the refusal if they cannot be timed
abbrev pub timed : ℕ → ℕ → Answer Timing
timed p q =
    if nat_lt p 4 then refused period_too_short else
    if nat_lt 65536 p then refused period_too_long else
    if nat_lt q 2 then refused period_too_short else
    given (counts_of p q)

-- the timing of a timer clock and a bit rate, at s samples a bit
unfoldable pub from_clocks : ℕ → ℕ → ℕ → Answer Timing
from_clocks s clock bitrate =
    if clock == 0 then refused zero_timer_clock else
    if bitrate == 0 then refused zero_bitrate else
    timed (nearest clock bitrate) (nearest clock (reply_sample_hz s bitrate))

-- what holds of the clocks if a timing t is given
pub record ClocksGiven (s clock bitrate : ℕ) (t : Timing) : Type 0 where
  pub clocked : 0 < clock
  pub rated : 0 < bitrate
  pub long : 4 ≤ nearest clock bitrate
  pub short : nearest clock bitrate ≤ 65536
  pub sampled : 2 ≤ nearest clock (reply_sample_hz s bitrate)
  pub counts : t ≡ counts_of (nearest clock bitrate) (nearest clock (reply_sample_hz s bitrate))

-- the high time of a bit
abbrev pub duty_for_bit : Timing → Bool → ℕ
duty_for_bit t set = if set then t.one_high else t.zero_high
