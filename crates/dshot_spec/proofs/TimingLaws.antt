-- Quotients to the nearest. The laws of a timing that is given: its clocks, its counts, its high times and its shortest period.
-- Assumes nothing.
use Rattle.std.specs.Prelude.{◌≡◌, ℕ, ◌+◌, ◌*◌, ◌/◌, ◌^◌, ◌<◌, ◌≤◌, Bool, true, false, eqb, ltb}
use native.Mathlib.Nat.{div-lt_iff_lt-mul, le-div_iff_mul-le, mul-le-mul_left}
use native.Mathlib.Omega.{arith}
use lib.Dec.{lit<}
use borrow.Author.Tests.{eqb-false, ltb-false}
use Rattle.dshot_reply_spec.specs.Answer.{given}
use Rattle.dshot_reply_spec.specs.Refusals.{period_too_long, period_too_short, zero_bitrate, zero_timer_clock}
use Rattle.dshot_reply_spec.specs.Nearest.{nearest}
use Rattle.dshot_reply_spec.proofs.Documents.{rounded}
use Rattle.dshot_reply_spec.proofs.Given.{second-given}
use Rattle.dshot_spec.specs.Timing.{ClocksGiven, Timing, duty_for_bit, from_clocks, reply_sample_hz}
use Rattle.dshot_spec.specs.Betaflight.{NearestTick, high_eighths}

-- ---- quotients to the nearest

-- to add half of the divisor, cut to an integer, rounds halves up
pub halves-up : (a b : ℕ) → nearest a b ≡ (2 * a + b) / (2 * b)
halves-up = rounded

-- a quotient is at most the number divided
pub nearest-le : (a b : ℕ) → 0 < b → nearest a b ≤ a
nearest-le a b h = let l = (div-lt_iff_lt-mul {x = a + b / 2} {y = a + 1} h).1 (omega (arith, mul-le-mul_left a h)) in omega arith

-- so a quotient of numbers of 32 bits has 32 bits
pub nearest-fits : (a b : ℕ) → 0 < b → a < 2 ^ 32 → nearest a b < 2 ^ 32
nearest-fits a b h l = omega (arith, nearest-le a b h)

-- a larger divisor does not make a quotient pass a bound
nearest-falls : (n a b c : ℕ) → 0 < b → b ≤ c → nearest a b ≤ n → nearest a c ≤ n
nearest-falls n a b c h l e =
    let x : a + b / 2 < (n + 1) * b = (div-lt_iff_lt-mul h).0 (omega arith) in
    let y : n * b ≤ n * c = mul-le-mul_left n l in
    let z = (div-lt_iff_lt-mul {k = c} {x = a + c / 2} {y = n + 1} (omega arith)).1 (omega arith) in
    omega arith

-- ---- the sampling of replies

-- replies are sampled at least as often as bits are sent
sample-hz-le : (s bitrate : ℕ) → 0 < s → bitrate ≤ reply_sample_hz s bitrate
sample-hz-le s bitrate h = omega (arith, mul-le-mul_left bitrate h)

-- the sampling is never at 0 Hz
pub sample-hz-pos : (s bitrate : ℕ) → 0 < s → 0 < bitrate → 0 < reply_sample_hz s bitrate
sample-hz-pos s bitrate h l = omega (arith, sample-hz-le s bitrate h)

-- if the bit period fits in sixteen bits, the sample period does
pub sample-period-fits : (s clock bitrate : ℕ) → 0 < s → 0 < bitrate → nearest clock bitrate ≤ 65536
    → nearest clock (reply_sample_hz s bitrate) ≤ 65536
sample-period-fits s clock bitrate h l = nearest-falls 65536 clock bitrate (reply_sample_hz s bitrate) l (sample-hz-le s bitrate h)

-- ---- a timing that is given

-- no high time is zero or as long as the period, and that of a 1 is the longer
pub high-times : (p : ℕ) → 4 ≤ p → (0 < nearest (3 * p) 8) × (nearest (3 * p) 8 < nearest (3 * p) 4) × (nearest (3 * p) 4 < p)
high-times p h = omega arith

-- a timing is given only for clocks that are not zero and periods that can be timed, and has their counts
pub clocks-given : (s clock bitrate : ℕ) {t : Timing} → from_clocks s clock bitrate ≡ given t → ClocksGiven s clock bitrate t
unfolding from_clocks
clocks-given s clock bitrate {t} e =
    let p = nearest clock bitrate in
    let q = nearest clock (reply_sample_hz s bitrate) in
    let a = second-given zero_timer_clock (eqb clock 0) e in
    let b = second-given zero_bitrate (eqb bitrate 0) a.1 in
    let c = second-given period_too_short (ltb p 4) b.1 in
    let d = second-given period_too_long (ltb 65536 p) c.1 in
    let g = second-given period_too_short (ltb q 2) d.1 in
    let same = g.1 in
    record {
      clocked = omega (arith, eqb-false clock 0 a.0);
      rated = omega (arith, eqb-false bitrate 0 b.0);
      long = ltb-false p 4 c.0;
      short = ltb-false 65536 p d.0;
      sampled = ltb-false q 2 g.0;
      counts = cc;
    }

-- every count fits in sixteen bits
pub fields_fit : (s clock bitrate : ℕ) {t : Timing} → 0 < s → from_clocks s clock bitrate ≡ given t
    → (t.arr < 65536) × (t.zero_high < 65536) × (t.one_high < 65536) × (t.reply_sample_arr < 65536)
fields_fit s clock bitrate h e =
    let c = clocks-given s clock bitrate e in
    rw c.counts (omega (arith, high-times (nearest clock bitrate) c.long, sample-period-fits s clock bitrate h c.rated c.short))

-- the high times of a timing that is given differ
pub unequal-times : (s clock bitrate : ℕ) {t : Timing} → from_clocks s clock bitrate ≡ given t → t.zero_high ≡ t.one_high → ⊥
unequal-times s clock bitrate e f =
    let c = clocks-given s clock bitrate e in
    let g = rw c.counts at f in
    omega (arith, high-times (nearest clock bitrate) c.long)

-- at three samples a bit the sample period refuses a period of 4 too, so that the shortest that is given is 5
pub shortest-period : (clock bitrate : ℕ) {t : Timing} → from_clocks 3 clock bitrate ≡ given t → 5 ≤ nearest clock bitrate
shortest-period clock bitrate e =
    let c = clocks-given 3 clock bitrate e in
    let h = reply_sample_hz 3 bitrate in
    let twice : 2 * h ≤ clock + h / 2 = (le-div_iff_mul-le (sample-hz-pos 3 bitrate (lit< tt) c.rated)).0 c.sampled in
    (le-div_iff_mul-le c.rated).1 (omega (arith, c.rated))

-- the high times are those of the document, to the nearest tick
pub high-nearest : (s clock bitrate : ℕ) {t : Timing} (set : Bool) → from_clocks s clock bitrate ≡ given t
    → NearestTick (duty_for_bit t set) (high_eighths set) (nearest clock bitrate)
high-nearest s clock bitrate false e = rw (clocks-given s clock bitrate e).counts (record { most = omega arith; least = omega arith })
high-nearest s clock bitrate true e = rw (clocks-given s clock bitrate e).counts (record { most = omega arith; least = omega arith })
