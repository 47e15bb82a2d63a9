-- The arguments are in range, or reading breaks with a cause of the refusal 24 before it looks at the text.
-- Assumes nothing.
use mathlib.Core.Path.{◌≡◌, refl, ◌∙◌}
use mathlib.Core.Logic.{◌⊎◌, inl, inr}
use Prim.Native.Nat.{ℕ, ◌^◌, ◌≤◌, ◌<◌}
use native.Mathlib.Omega.{arith}
use lib.Dec.{eqb, leb, ltb}
use borrow.Author.Tests.{leb-false, ltb-false, eqb-false, lt-leb, le-ltb, ne_eqb}
use Rattle.dump_spec.specs.Causes.{refusal_of, no_place, offset_out, period_out, count_out}
use Rattle.dump_spec.specs.Signal.{Outcome, broke}
use Rattle.dump_spec.specs.Dump.{Asked, max_samples, in_range}
use Rattle.dump_spec.proofs.Choices.{off}
use Rattle.dump_spec.proofs.Outcomes.{chosen}

-- what the arguments must be
pub record Within (a : Asked) : Type 0 where
  pub offset : a.offset < 2 ^ 32
  pub least : 0 < a.period
  pub period : a.period < 2 ^ 32
  pub count : a.count ≤ max_samples

-- a break of the refusal 24 that has no place
pub record OutOfRange {A : Type 0} (o : Outcome A) : Type 0 where
  pub cause : ℕ
  pub is24 : refusal_of cause ≡ 24
  pub broken : o ≡ broke cause no_place

positive : (n : ℕ) → (n ≡ 0 → ⊥) → 0 < n
positive n h = omega arith

module _ {A : Type 0} (a : Asked) (next : Outcome A) where
  -- in range, reading goes on
  pub within-next : Within a → in_range a next ≡ next
  unfolding in_range
  within-next h =
      off _ _ (lt-leb (2 ^ 32) a.offset h.offset)
      ∙ off _ _ (ne_eqb a.period 0 (omega arith))
      ∙ off _ _ (lt-leb (2 ^ 32) a.period h.period)
      ∙ off _ _ (le-ltb max_samples a.count h.count)

  abbrev Settled : Outcome A → Type 0
  Settled o = (Within a × (o ≡ next)) ⊎ OutOfRange o

  out : (cause : ℕ) → refusal_of cause ≡ 24 → Settled (broke cause no_place)
  out cause e = inr (record { cause = cause; is24 = e; broken = refl })

  -- out of range, it breaks
  pub within-or-out : (Within a × (in_range a next ≡ next)) ⊎ OutOfRange (in_range a next)
  unfolding in_range
  within-or-out =
      chosen Settled (leb (2 ^ 32) a.offset) _ _ (λ _. out offset_out refl)
      (λ o. chosen Settled (eqb a.period 0) _ _ (λ _. out period_out refl)
      (λ z. chosen Settled (leb (2 ^ 32) a.period) _ _ (λ _. out period_out refl)
      (λ p. chosen Settled (ltb max_samples a.count) _ _ (λ _. out count_out refl)
      (λ c. inl (
        record {
          offset = leb-false (2 ^ 32) a.offset o;
          least = positive a.period (eqb-false a.period 0 z);
          period = leb-false (2 ^ 32) a.period p;
          count = ltb-false max_samples a.count c;
        },
        refl,
      )))))
