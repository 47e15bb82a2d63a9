-- When a command's lease has run out, on a clock of 64 bits that may wrap.
-- Stands for `command_lease_expired` of crates/ferrowasp-output/src/dshot.rs (Eirik2020/ferro-wasp, commit 9cb8aca1a6, Copyright (c) 2026 Kaldstrand,
-- Apache-2.0), changed: rewritten as a definition.
-- Assumes nothing.
use Rattle.std.specs.Prelude.{ℕ, ◌+◌, ◌-◌, ◌%◌, ◌^◌, Bool, nat_lt}

-- the time from `started` to `now` on clocks of so many bits: the wrapping subtraction, the Rust's `wrapping_sub`
abbrev pub elapsed : ℕ → ℕ → ℕ → ℕ
elapsed bits started now = (now + (2 ^ bits - started)) % 2 ^ bits

-- The lease is expired if more time has passed than its duration. If the clock is before the start, the lease counts as expired, unless the wrapped
-- difference is within the duration.
unfoldable pub lease_expired : ℕ → ℕ → ℕ → Bool
lease_expired started duration now = nat_lt duration (elapsed 64 started now)
