-- What the private functions that send a frame set return, in the terms of the definitions. Only private functions cite this.
-- Assumes nothing.
use Rattle.std.specs.Prelude.{ℕ, ◌+◌, ◌-◌, ◌*◌, ◌≡◌, Bool, false, not, List, [], ◌∷◌, ◌++◌, length, take, replicate, get_or}
use Rattle.std.proofs.Math.Option as Spec
use Rattle.dshot.specs.Answers.{lane_of}
use Rattle.dshot_bank_spec.specs.State.{Core}
use Rattle.dshot_bank_spec.specs.Commands.{MotorCommand}
use Rattle.dshot_bank_spec.specs.FrameSet.{frame_set}
use Rattle.bank_slots_spec.specs.Load.{four}
use Rattle.bank_slots_spec.specs.Store.{bit}
use Rattle.bank_slots.specs.declared.send.FrameSet.{FrameSet}

-- The code and the definition have the same values and telemetry lane.
pub record Sets (r : FrameSet) (c : Core) (m : Spec.Option MotorCommand) : Type 0 where
  pub values : r.values ≡ (frame_set 4 c m).values
  pub lane : lane_of r.telemetry_lane ≡ (frame_set 4 c m).telemetry_lane

-- the orders to exchange, by the marks
abbrev pub exchange_codes : List Bool → List ℕ
exchange_codes marks = four (λ (i : ℕ). 8 * 1 + i + 4 * bit (not (get_or marks i false)))

-- the slots if a lane refuses, by the exchanges
abbrev pub refused_slots : ℕ → List ℕ → List ℕ
refused_slots lane exchanges =
    let l = take (lane + 1) exchanges in
    3 ∷ (length l + 5) ∷ (l ++ ((40 ∷ 48 ∷ 49 ∷ 50 ∷ 51 ∷ []) ++ replicate (15 - (2 + length l + 5)) 0))
