-- What the parts of a service and of an interrupt do to the slots of a bank, and put into the slots of the answer. Only private functions cite this.
-- Assumes nothing.
use Rattle.std.specs.Prelude.{ℕ, ◌≡◌, List}
use Rattle.dshot_bank_spec.specs.State.{Core, Bank, Buffers}
use Rattle.dshot_bank_spec.specs.Interrupt.{Interrupted}
use Rattle.dshot_bank_spec.specs.Service.{Served, Skipped}
use Rattle.bank_slots_spec.specs.Load.{load}
use Rattle.bank_slots_spec.specs.Moves.{Moves, on_core}
use Rattle.bank_slots_spec.specs.Outs.{interrupt_slots, service_slots}

-- an interrupt on the core
pub record Handles (f : Core → Interrupted) (before after out : List ℕ) : Type 0 where
  pub moves : Moves (on_core (λ (c : Core). (f c).core)) before after
  pub told : out ≡ interrupt_slots (f (load before).core).event (f (load before).core).orders

-- a service on the core that sends nothing
pub record Skips (f : Core → Skipped) (before after out : List ℕ) : Type 0 where
  pub moves : Moves (on_core (λ (c : Core). (f c).core)) before after
  pub told : out ≡ service_slots (f (load before).core).event (f (load before).core).orders (load before).core.frame.in_second

-- a service
pub record Serves (f : Bank → Buffers → Served) (b : Buffers) (b' : Buffers) (before after out : List ℕ) : Type 0 where
  pub moves : Moves (λ (k : Bank). (f k b).bank) before after
  pub buffers : b' ≡ (f (load before) b).buffers
  pub told : out ≡ service_slots (f (load before) b).event (f (load before) b).orders (load before).core.frame.in_second
