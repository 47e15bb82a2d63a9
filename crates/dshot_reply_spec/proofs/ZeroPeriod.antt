-- The values that are refused with 11 (zero period). With EDT off, they are the multiples of 512 except the acknowledgement 0xE00. With EDT on, only
-- value 0 is refused.
-- Assumes nothing.
use mathlib.Core.Path.{◌≡◌, refl}
use mathlib.Core.Bool.{true, false, ◌||◌}
use Prim.Native.Nat.{ℕ, ◌*◌, ◌/◌, ◌%◌, ◌^◌}
use native.Mathlib.Nat.{eq_of_mul-eq-mul_right, zero-mul}
use native.Mathlib.Omega.{arith}
use lib.Dec.{eqb}
use lib.Pow.{pow_pos}
use borrow.Author.Tests.{eqb-false, eqb-true, ne_eqb}
use Rattle.dshot_reply_spec.proofs.Choice.{not-both, not_first, not-second}
use Rattle.dshot_reply_spec.specs.Answer.{refused}
use Rattle.dshot_reply_spec.specs.Refusals.{zero_period}
use Rattle.dshot_reply_spec.specs.Value.{reply_of, speed_of, speed_value}

-- ---- the speeds that are refused

-- a product with a power of two is 0 only if its first factor is 0
first-zero : (m k : ℕ) → m * 2 ^ k ≡ 0 → m ≡ 0
first-zero m k e = eq_of_mul-eq-mul_right (2 ^ k) (pow_pos k) m 0 (rw zero-mul e)

-- a speed is refused only if its nine bits are 0
speed-zero : (u : ℕ) → speed_value u ≡ refused zero_period → u % 512 ≡ 0
unfolding speed_value speed_of
speed-zero u e =
    let p = u % 512 * 2 ^ (u / 512) in
    let a = not_first (eqb u 0xfff) e (not-both refl) in
    let b = not-second (eqb p 0) a.1 (not-both refl) in
    first-zero (u % 512) (u / 512) (eqb-true p 0 b.0)

-- and there it is refused
zero-speed : (u : ℕ) → u % 512 ≡ 0 → speed_value u ≡ refused zero_period
unfolding speed_value speed_of
zero-speed u h = rw (ne_eqb u 0xfff (λ e. omega arith), h, zero-mul (2 ^ (u / 512)))

-- ---- with EDT off

-- 1: what is refused is a multiple of 512, and not the acknowledgement
pub zero-off : (v : ℕ) → reply_of v false ≡ refused zero_period → (v % 512 ≡ 0) × (v % 4096 ≡ 0xe00 → ⊥)
unfolding reply_of
zero-off v e =
    let u = v % 4096 in
    let a = not_first (eqb u 0xe00) e (not-both refl) in
    (omega (arith, speed-zero u a.1), eqb-false u 0xe00 a.0)

-- 2: and each such value is refused
pub off_zero : (v : ℕ) → v % 512 ≡ 0 → (v % 4096 ≡ 0xe00 → ⊥) → reply_of v false ≡ refused zero_period
unfolding reply_of
off_zero v h n = rw (ne_eqb (v % 4096) 0xe00 n) (zero-speed (v % 4096) (omega arith))

-- ---- with EDT on

-- If the type nibble is odd, the nine bits are at least 256. So if they are 0, the nibble is 0, and so is the value.
typed-zero : (u : ℕ) → (eqb (u / 256 % 2) 1 || eqb (u / 256) 0) ≡ true → u % 512 ≡ 0 → u ≡ 0
typed-zero u t h =
    let even = ne_eqb (u / 256 % 2) 1 (λ e. omega arith) in
    let none = eqb-true (u / 256) 0 (rw even at t) in
    omega arith

-- 3: what is refused is 0
pub zero-on : (v : ℕ) → reply_of v true ≡ refused zero_period → v % 4096 ≡ 0
unfolding reply_of
zero-on v e =
    let u = v % 4096 in
    let a = not-second (eqb (u / 256 % 2) 1 || eqb (u / 256) 0) e (not-both refl) in
    typed-zero u a.0 (speed-zero u a.1)

-- 4: and 0 is refused
pub on-zero : (v : ℕ) → v % 4096 ≡ 0 → reply_of v true ≡ refused zero_period
unfolding reply_of speed_value speed_of
on-zero v h = rw h
