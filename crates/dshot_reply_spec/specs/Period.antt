-- The value of a period, as the simulated ESC makes it (added by document 01).
-- Assumes nothing.
use Rattle.std.specs.Prelude.{ℕ, zero, suc, ◌+◌, ◌*◌, ◌/◌, ◌^◌, ◌≤◌, ◌<◌, ◌≡◌, eqb, leb, ltb, if◌then◌else◌}
use Rattle.dshot_reply_spec.specs.Answer.{Answer, given, refused}
use Rattle.dshot_reply_spec.specs.Refusals.{period_out_of_range}

-- the period halved, rounding down, until at most 511 is left: the number of times, and what is left, as one number. More than `most` times is not needed
unfoldable pub scaled : ℕ → ℕ → ℕ → ℕ
scaled zero e p = e * 512 + p
scaled (suc most) e p = if leb p 511 then e * 512 + p else scaled most (e + 1) (p / 2)

-- a period of 1 to 65535 microseconds has a value
unfoldable pub period_value : ℕ → Answer ℕ
period_value p =
    if eqb p 0 then refused period_out_of_range else
    if ltb 65535 p then refused period_out_of_range else
    given (scaled 7 0 p)

-- document 01's description: the value has the smallest exponent for which what is left of the period fits its nine bits
pub record SmallestExponent (p v : ℕ) : Type 0 where
  pub exponent : ℕ
  pub small : exponent ≤ 7
  pub value : v ≡ exponent * 512 + p / 2 ^ exponent
  pub leaves : p / 2 ^ exponent ≤ 511
  pub smallest : (e : ℕ) → e < exponent → 511 < p / 2 ^ e
