-- The DShot value of a throttle of 0 to 2000. A higher throttle counts as 2000.
-- Stands for `throttle_to_dshot` and `throttles_to_dshot` of crates/ferrowasp-output/src/dshot.rs (Eirik2020/ferro-wasp, commit 9cb8aca1a6, Copyright
-- (c) 2026 Kaldstrand, Apache-2.0), changed: rewritten as definitions.
-- Assumes nothing.
use Rattle.std.specs.Prelude.{ℕ, ◌+◌, ◌*◌, ◌/◌, min, List, ◌==◌, slice_index, if◌then◌else◌}
use Rattle.dshot_spec.specs.Tabulate.{tabulate}

-- A throttle of 0 has the value 0, a stop. Any other throttle has a value of 48 to 2047.
unfoldable pub throttle_value : ℕ → ℕ
throttle_value v = if v == 0 then 0 else 48 + min v 2000 * 1999 / 2000

-- the values of the throttles of n lanes
unfoldable pub throttle_values : ℕ → List ℕ → List ℕ
throttle_values n throttles = tabulate n (λ i. throttle_value (slice_index throttles i))
