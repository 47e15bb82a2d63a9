-- What a step of a call does to the slots of a bank. Only private functions cite this.
-- Assumes nothing.
use Rattle.std.specs.Prelude.{ℕ, ◌≡◌, List}
use Rattle.dshot_bank_spec.specs.State.{Core, Bank}
use Rattle.dshot_bank_spec.specs.With.{with_core}
use Rattle.bank_slots_spec.specs.Load.{load}
use Rattle.bank_slots_spec.specs.Written.{Written}

-- a step that changes only the core
abbrev pub on_core : (Core → Core) → Bank → Bank
on_core f b = with_core (f b.core) b

-- The bank in the slots takes a step, whatever they hold. If the library wrote the slots before, they are still such as it writes.
pub record Moves (f : Bank → Bank) (before after : List ℕ) : Type 0 where
  pub loads : load after ≡ f (load before)
  pub keeps : Written before → Written after
