-- Counts wrap at 2^32. Only the count of consecutive invalid replies does not: it stops at its largest value.
-- Assumes nothing.
use mathlib.Core.Path.{◌≡◌, refl}
use Prim.Native.Nat.{ℕ, ◌+◌, ◌-◌, ◌^◌, ◌<◌}
use native.Mathlib.Nat.{mod-eq_of_lt}
use native.Mathlib.Omega.{arith}
use Rattle.dshot_bank_spec.specs.Replies.{wrapping_add, saturating_add}

-- document 01: "Counts wrap at 2^32, except `consecutive_invalid`, which stops at its largest value"
pub count-wraps : wrapping_add (2 ^ 32 - 1) ≡ 0
count-wraps = refl

pub count-adds : (k : ℕ) → k < 2 ^ 32 - 1 → wrapping_add k ≡ k + 1
count-adds k h = mod-eq_of_lt (omega arith)

pub stopping-stops : saturating_add (2 ^ 32 - 1) ≡ 2 ^ 32 - 1
stopping-stops = refl

pub stopping-adds : (k : ℕ) → k < 2 ^ 32 - 1 → saturating_add k ≡ k + 1
stopping-adds k h = omega arith
