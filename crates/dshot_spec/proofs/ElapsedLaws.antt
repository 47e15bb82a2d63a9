-- The time from one clock to another by the wrapping subtraction, for every width of the clocks.
-- Assumes nothing.
use Rattle.std.specs.Prelude.{◌≡◌, ℕ, ◌+◌, ◌-◌, ◌*◌, ◌%◌, ◌^◌, ◌<◌, ◌≤◌}
use mathlib.Core.Path.{ap, ◌∙◌}
use mathlib.Core.Logic.{⊎_elim}
use native.Mathlib.Nat.{mod-eq_of_lt}
use native.Mathlib.Omega.{arith}
use lib.Arith.{digits_mod}
use Rattle.dshot_reply_spec.proofs.Cases.{lt-or-ge}
use Rattle.dshot_spec.specs.Lease.{elapsed}

module _ (bits started : ℕ) (small : started < 2 ^ bits) where
  -- a clock before the start: the time until it would have wrapped to it
  pub wrapped : (now : ℕ) → now < started → elapsed bits started now ≡ now + (2 ^ bits - started)
  wrapped now h = mod-eq_of_lt (omega arith)

  -- a clock at or after it: the time that has passed
  pub passed : (now : ℕ) → now < 2 ^ bits → started ≤ now → elapsed bits started now ≡ now - started
  passed now clock h =
      let e : now + (2 ^ bits - started) ≡ 1 * 2 ^ bits + (now - started) = omega arith in
      ap (λ (n : ℕ). n % 2 ^ bits) e ∙ digits_mod 1 {m = 2 ^ bits} {r = now - started} (omega arith)

  -- so k milliseconds after the start k have passed, whether the clock has wrapped or not
  pub elapsed-after : (k : ℕ) → k < 2 ^ bits → elapsed bits started ((started + k) % 2 ^ bits) ≡ k
  elapsed-after k l = ⊎_elim below above (lt-or-ge (started + k) (2 ^ bits))
    where
      below : started + k < 2 ^ bits → elapsed bits started ((started + k) % 2 ^ bits) ≡ k
      below h = ap (elapsed bits started) (mod-eq_of_lt h) ∙ passed (started + k) h (omega arith) ∙ omega arith

      above : 2 ^ bits ≤ started + k → elapsed bits started ((started + k) % 2 ^ bits) ≡ k
      above h =
          let e : started + k ≡ 1 * 2 ^ bits + (started + k - 2 ^ bits) = omega arith in
          let f = ap (λ (n : ℕ). n % 2 ^ bits) e ∙ digits_mod 1 {m = 2 ^ bits} {r = started + k - 2 ^ bits} (omega arith) in
          ap (elapsed bits started) f ∙ wrapped (started + k - 2 ^ bits) (omega arith) ∙ omega arith
