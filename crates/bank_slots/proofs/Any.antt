-- Whether a bank's slots ask a motor to turn.
-- Assumes nothing.
use Rattle.std.proofs.Common.{◌≡◌, ℕ, Bool, ltb, List, length, take, drop, ap, ◌∙◌}
use Rattle.std.specs.List.{list_any}
use Rattle.dshot_bank_spec.specs.Lanes.{any}
use Rattle.dshot_bank.proofs.LaneTests.{any_is}
use Rattle.bank_slots_spec.specs.Places.{slots, VALUES}
use Rattle.bank_slots_spec.specs.Load.{load}
use Rattle.bank_slots_spec.proofs.CommandMoves.{values-part}

pub values-above : {r : Bool} {values : List ℕ} (xs : List ℕ) → length xs ≡ slots → values ≡ (load xs).core.demand.requested_values → r ≡ list_any (ltb 0) values → r ≡ any (ltb 0) (take 4 (drop VALUES xs))
unfolding load
values-above {values = values} xs n v e = e ∙ any_is (ltb 0) values ∙ ap (any (ltb 0)) (v ∙ values-part xs n)
