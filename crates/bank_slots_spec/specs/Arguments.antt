-- The arguments of an exported call of a bank that come in slots: the hardware's answers, and a run of commands.
-- Added: document 01 asks for calls from C.
-- Assumes nothing.
use Rattle.std.specs.Prelude.{ℕ, ◌+◌, Bool, List, get_or}
use Rattle.dshot_spec.specs.Command.{CommandRun}
use Rattle.bank_slots_spec.specs.Memory.{at}
use Rattle.bank_slots_spec.specs.Load.{flag, four, run_from}

-- ---- the hardware's answers in twelve slots: for each lane whether it took its buffer, whether it has a capture, and its mask

abbrev pub taken : List ℕ → List Bool
taken xs = four (λ (i : ℕ). flag (get_or xs i 0))

abbrev pub present : List ℕ → List Bool
present xs = four (λ (i : ℕ). flag (get_or xs (4 + i) 0))

abbrev pub masks : List ℕ → List ℕ
masks xs = four (λ (i : ℕ). get_or xs (8 + i) 0)

-- ---- a run of two commands, in four slots
abbrev pub run_given : List ℕ → CommandRun
run_given xs = run_from 0 (at xs)
