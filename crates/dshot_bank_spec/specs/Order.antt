-- Orders to the hardware: the calls of the source's `DshotLanes` that change the hardware, with their arguments. The calls that only ask are no
-- orders. Their answers come with the bank's call.
-- Stands for `DshotLanes` of crates/ferrowasp-stm32-critical/src/dshot_bank.rs (Eirik2020/ferro-wasp, commit 9cb8aca1a6, Copyright (c) 2026
-- Kaldstrand, Apache-2.0), changed: rewritten as definitions.
-- Assumes nothing.
use Rattle.std.specs.Prelude.{ℕ, ◌+◌, List, [], ◌∷◌, ◌++◌}
use Rattle.dshot_spec.specs.Tabulate.{tabulate}

pub data Order : Type 0 where
  exchange_buffer : (motor : ℕ) → Order
  start_dma : (motor : ℕ) → Order
  start_frame : (first_duties : List ℕ) → Order
  stop_frame : Order
  force_outputs_low : Order
  pause_and_clear : (motor : ℕ) → Order
  begin_receive : Order
  end_receive : Order

-- the orders of a latched fault over n lanes: outputs low, then every stream paused
abbrev pub latch_orders : ℕ → List Order
latch_orders n = force_outputs_low ∷ tabulate n pause_and_clear

-- the orders of a frame set that starts: every buffer exchanged, then every stream enabled, then the timers started
abbrev pub start_orders : ℕ → List ℕ → List Order
start_orders n first_duties = tabulate n exchange_buffer ++ (tabulate n start_dma ++ (start_frame first_duties ∷ []))

-- the orders of a frame set if a lane refuses its buffer: the exchanges up to that lane, then those of the latched fault
abbrev pub refused_orders : ℕ → ℕ → List Order
refused_orders n lane = tabulate (lane + 1) exchange_buffer ++ latch_orders n
