-- What is claimed of a lease that has expired: no throttle outlives it. "Lease" is document 01's term.
-- Assumes nothing.
use Rattle.std.specs.Prelude.{ℕ, ◌≡◌, Bool, true, false, List, replicate, set}
use Rattle.std.proofs.Math.Option.{Option, none, some}
use Rattle.dshot_bank_spec.specs.State.{Core, LaneReply, Buffers}
use Rattle.dshot_bank_spec.specs.Commands.{MotorCommand, command_stop, next_command_frame}
use Rattle.dshot_bank_spec.specs.FrameSet.{next_set}
use Rattle.dshot_bank_spec.specs.Service.{demand_expired, service_core}
use Rattle.dshot_bank_spec.specs.SentClaim.{sending_core}

-- The values of a set if no value is requested. If a run is left, its next command goes to its lane, whatever its number. All others are 0.
abbrev pub no_throttle : ℕ → Option MotorCommand → List ℕ
no_throttle n none = replicate n 0
no_throttle n (some m) = set (replicate n 0) m.motor m.command

module _ (n now : ℕ) (c : Core) where
  pub record LeaseEnded : Type 0 where
    -- If a service finds the lease expired and no fault, it leaves no value requested and no lease. A set may be in flight or not.
    pub left : (taken present : List Bool) (masks samples : List ℕ) (replies : List LaneReply) (buffers : Buffers) → c.frame.faulted ≡ false
        → (service_core n now taken present masks samples replies buffers c).bank.core.demand ≡ (command_stop n c).demand
    -- The service begins to send with no value requested and no lease.
    pub stopped : (sending_core n now c).demand ≡ (command_stop n c).demand
    -- What it sends is a set without a throttle. If no run is left, all values are 0.
    pub sent : (next_set n (sending_core n now c)).values ≡ no_throttle n (next_command_frame (sending_core n now c)).command
    pub zeros : c.command_sequence ≡ none → (next_set n (sending_core n now c)).values ≡ replicate n 0

-- the claim, for every number of lanes, clock and core
abbrev pub LeaseEnds : Type 0
LeaseEnds = (n now : ℕ) (c : Core) → demand_expired now c.demand ≡ true → LeaseEnded n now c
