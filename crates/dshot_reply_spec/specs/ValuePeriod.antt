-- The period that a value stands for, and its step (added, for the bench).
-- Stands for the period inside `DshotReply::from_value` of crates/ferrowasp-output/src/dshot_reply.rs (Eirik2020/ferro-wasp, commit
-- 9cb8aca1a6, Copyright (c) 2026 Kaldstrand, Apache-2.0), which follows Betaflight's `drivers/dshot.c`.
-- Assumes nothing.
use Rattle.std.specs.Prelude.{ℕ, ◌+◌, ◌*◌, ◌/◌, ◌%◌, ◌≤◌, ◌<◌, ◌≡◌, eqb, if◌then◌else◌}
use Rattle.dshot_reply_spec.specs.Answer.{Answer, given, refused, and_then}
use Rattle.dshot_reply_spec.specs.Refusals.{zero_period}
use Rattle.dshot_reply_spec.specs.Nearest.{nearest}
use Rattle.dshot_reply_spec.specs.Value.{Reading, erpm, period_of, step_of}

-- a period in microseconds, and the step to the next period with the same exponent; both are 0 at rest
pub record Period : Type 0 where
  pub microseconds : ℕ
  pub step : ℕ

-- the period of a value that is a speed; 0xFFF is a stopped rotor, and a period of 0 is refused with 11 (zero period)
unfoldable pub value_period : ℕ → Answer Period
value_period value =
    let v = value % 4096 in
    if eqb v 0xfff then given (record { microseconds = 0; step = 0 }) else
    if eqb (period_of v) 0 then refused zero_period else
    given (record { microseconds = period_of v; step = step_of v })

-- ---- what the theorems claim of it

-- q is p, rounded down to a multiple of q's step; so p is at least q, and less than q plus its step
pub record RoundedDown (p : ℕ) (q : Period) : Type 0 where
  pub multiple : q.microseconds ≡ p / q.step * q.step
  pub least : q.microseconds ≤ p
  pub most : p < q.microseconds + q.step

-- the speed of a period: 0 at rest, else eRPM / 100, halves up
abbrev pub period_speed : Period → Reading
period_speed q = erpm (if eqb q.microseconds 0 then 0 else nearest 600000 q.microseconds)

-- what a value reads as, computed from its period only
abbrev pub period_reply : ℕ → Answer Reading
period_reply v = and_then (value_period v) (λ q. given (period_speed q))
