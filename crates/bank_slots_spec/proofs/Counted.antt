-- A completion is counted in the slots, for a lane that is only known to be one of the four.
-- Assumes nothing.
use mathlib.Core.Path.{◌≡◌, ◌∙◌, refl}
use mathlib.Core.Bool.{true}
use mathlib.Core.List.{List}
use Prim.Native.Nat.{ℕ, zero, suc, ◌+◌, ◌*◌, ◌/◌, ◌%◌, ◌<◌}
use native.Mathlib.Omega.{arith}
use lib.ListN.{length, set}
use Rattle.dshot_bank_spec.specs.State.{Core, Bank}
use Rattle.dshot_bank_spec.specs.With.{with_stats, with_lane_completions}
use Rattle.dshot_bank_spec.specs.Replies.{wrapping_add}
use Rattle.dshot_bank_spec.specs.Interrupt.{count_completion}
use Rattle.bank_slots_spec.specs.Memory.{Row, at, write, over, within, word, word_rows}
use Rattle.bank_slots_spec.specs.Places.{slots, LANE_COMPLETIONS}
use Rattle.bank_slots_spec.specs.Load.{bank_at}
use Rattle.bank_slots_spec.specs.Written.{WrittenAt}
use Rattle.bank_slots_spec.specs.Moves.{on_core, Moves}
use Rattle.bank_slots_spec.proofs.MemoryLaws.{word_back}
use Rattle.bank_slots_spec.proofs.MoveLaws.{moves-write}

-- one lane's count replaced
abbrev counted : ℕ → ℕ → Bank → Bank
counted lane v = on_core (λ (c : Core). with_stats (with_lane_completions (set c.stats.lane_completions lane v) c.stats) c)

module _ (xs : List ℕ) where
  -- the count of a lane after one more, and its two slots
  abbrev count : ℕ → ℕ
  count lane = wrapping_add (word (LANE_COMPLETIONS + 2 * lane) (at xs))

  abbrev rows : ℕ → List Row
  rows lane = word_rows (LANE_COMPLETIONS + 2 * lane) (count lane)

  -- a lane for which everything except the two halves of the count computes
  known : (lane : ℕ) → length xs ≡ slots → within (rows lane) slots ≡ true
      → bank_at (over (rows lane) (at xs)) ≡ counted lane (count lane / 65536 * 65536 + count lane % 65536) (bank_at (at xs))
      → counted lane (count lane) (bank_at (at xs)) ≡ on_core (λ (c : Core). with_stats (count_completion lane c.stats) c) (bank_at (at xs))
      → (WrittenAt (at xs) → WrittenAt (over (rows lane) (at xs)))
      → Moves (on_core (λ (c : Core). with_stats (count_completion lane c.stats) c)) xs (write (rows lane) xs)
  known lane n h e f w = moves-write (rows lane) xs n h (e ∙ (λ j. counted lane (word_back (count lane) j) (bank_at (at xs))) ∙ f) w

  pub lane-counted : (lane : ℕ) → length xs ≡ slots → lane < 4
      → Moves (on_core (λ (c : Core). with_stats (count_completion lane c.stats) c)) xs (write (word_rows (LANE_COMPLETIONS + 2 * lane) (wrapping_add (word (LANE_COMPLETIONS + 2 * lane) (at xs)))) xs)
  lane-counted zero n h = known 0 n refl refl refl (λ w. w)
  lane-counted (suc zero) n h = known 1 n refl refl refl (λ w. w)
  lane-counted (suc (suc zero)) n h = known 2 n refl refl refl (λ w. w)
  lane-counted (suc (suc (suc zero))) n h = known 3 n refl refl refl (λ w. w)
  lane-counted (suc (suc (suc (suc k)))) n h = absurd (omega arith)
