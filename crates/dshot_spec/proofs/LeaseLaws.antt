-- A lease has expired exactly if more time has passed than its duration. The laws are for a later clock, an earlier clock, and a clock that wrapped.
-- Assumes nothing.
use Rattle.std.specs.Prelude.{◌≡◌, ℕ, ◌+◌, ◌%◌, ◌^◌, ◌<◌, ◌≤◌, true, false, ltb, ◌↔◌}
use mathlib.Core.Path.{ap}
use native.Mathlib.Omega.{arith}
use borrow.Author.Tests.{lt-ltb, ltb-true, le-ltb, ltb-false}
use Rattle.dshot_spec.specs.Lease.{elapsed, lease_expired}
use Rattle.dshot_spec.proofs.ElapsedLaws.{passed, wrapped, elapsed-after}

-- document 01: "expired unless the wrapped difference is within the lease"; `command_lease_expired`
module _ (started duration now : ℕ) where
  -- a lease is not expired exactly if the wrapped difference of the clocks is within it
  pub lease-within : (lease_expired started duration now ≡ false) ↔ (elapsed 64 started now ≤ duration)
  unfolding lease_expired
  lease-within = (ltb-false duration (elapsed 64 started now), le-ltb duration (elapsed 64 started now))

  -- and it is expired exactly if that difference is above it
  pub lease-above : (lease_expired started duration now ≡ true) ↔ (duration < elapsed 64 started now)
  unfolding lease_expired
  lease-above = (ltb-true duration (elapsed 64 started now), lt-ltb duration (elapsed 64 started now))

-- so k milliseconds after its start it is expired exactly if k is above the duration, whether the clock has wrapped or not
pub lease-after : (started duration k : ℕ) → started < 2 ^ 64 → k < 2 ^ 64 → lease_expired started duration ((started + k) % 2 ^ 64) ≡ ltb duration k
unfolding lease_expired
lease-after started duration k small l = ap (ltb duration) (elapsed-after 64 started small k l)

module _ (started duration now : ℕ) (small : started < 2 ^ 64) (clock : now < 2 ^ 64) where
  -- a later clock is expired once more than the lease has passed
  pub later-expired : started + duration < now → lease_expired started duration now ≡ true
  later-expired h = (lease-above started duration now).1 (omega (arith, passed 64 started small now clock (omega arith)))

  -- If the clock is before the start, the lease counts as expired, unless the subtraction wraps into the lease.
  pub earlier-expired : now < started → started + duration < 2 ^ 64 + now → lease_expired started duration now ≡ true
  earlier-expired h l = (lease-above started duration now).1 (omega (arith, wrapped 64 started small now h))
