-- What the code's bank and sum mean in the terms of the definitions.
-- Assumes nothing.
use Rattle.dshot_bank_spec.specs.State.{Buffers}
use Rattle.dshot_bank.specs.States.{state_of}
use Rattle.dshot_bank_bench.specs.declared.Run.{Run}
use Rattle.dshot_bank_bench.specs.Cycles as Spec

abbrev pub run_of : Run → Buffers → Spec.Run
run_of r b = record { state = state_of r.bank b; sum = r.sum }
