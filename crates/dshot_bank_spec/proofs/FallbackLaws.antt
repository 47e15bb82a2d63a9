-- The fallback must release a service exactly if two milliseconds have passed since the last release. The clock may have wrapped or not.
-- Assumes nothing.
use mathlib.Core.Path.{◌≡◌, ap}
use mathlib.Core.Bool.{true}
use mathlib.Core.Logic.{◌↔◌}
use Prim.Native.Nat.{ℕ, ◌+◌, ◌%◌, ◌^◌, ◌<◌, ◌≤◌}
use borrow.Author.Tests.{leb-true, le-leb}
use lib.Dec.{leb}
use Rattle.dshot_spec.specs.Lease.{elapsed}
use Rattle.dshot_spec.proofs.ElapsedLaws.{elapsed-after}
use Rattle.dshot_bank_spec.specs.Commands.{fallback_release_due}

-- `fallback_release_due`: "the answer holds across the counter's wrap"
pub release-due : (now last : ℕ) → (fallback_release_due now last ≡ true) ↔ (2 ≤ elapsed 32 last now)
unfolding fallback_release_due
release-due now last = (leb-true 2 (elapsed 32 last now), le-leb 2 (elapsed 32 last now))

-- so k milliseconds after a release it is due exactly if k is at least 2
pub release-after : (last k : ℕ) → last < 2 ^ 32 → k < 2 ^ 32 → fallback_release_due ((last + k) % 2 ^ 32) last ≡ leb 2 k
unfolding fallback_release_due
release-after last k small l = ap (leb 2) (elapsed-after 32 last small k l)
