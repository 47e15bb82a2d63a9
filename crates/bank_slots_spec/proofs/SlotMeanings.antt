-- What a run's slots and an order's number mean to a host. If a run's index is above 1, the run is spent, however large the index is. An order to
-- exchange names a buffer. Once the lane has taken it, the lane sends from it.
-- Assumes nothing.
use mathlib.Core.Path.{◌≡◌, ◌∙◌, refl, sym, ap}
use mathlib.Core.Bool.{Bool, false}
use mathlib.Core.List.{List}
use Prim.Native.Nat.{ℕ, ◌+◌, ◌*◌, ◌<◌, min}
use native.Mathlib.Omega.{arith}
use lib.ListN.{get_or}
use borrow.Author.Tests.{lt-ltb, le-ltb}
use Rattle.dshot_spec.specs.Command.{Next, none, next_value}
use Rattle.dshot_spec.proofs.Tabulated.{get_d_tabulate}
use Rattle.dshot_bank_spec.specs.Order.{exchange_buffer}
use Rattle.dshot_bank_spec.specs.Send.{turn_marks}
use Rattle.dshot_bank_spec.proofs.LaneLaws.{on, off}
use Rattle.bank_slots_spec.specs.Load.{run_from}
use Rattle.bank_slots_spec.specs.Store.{bit}
use Rattle.bank_slots_spec.specs.Outs.{code_given}

-- For an argument and for the state: no command is left, whatever the other slots hold.
pub spent-above : (repeats k : ℕ) (m : ℕ → ℕ) → 1 < m (k + 2) → (next_value repeats (run_from k m)).command ≡ none
unfolding next_value
spent-above repeats k m h = sym (ap (λ (n : Next). n.command) (off _ _ (le-ltb (min (m (k + 2)) 255) 2 (omega arith)) refl))

-- When a frame set starts, the marks of all lanes turn. Then the lane sends from the buffer that the order names.
pub exchange-named : (n : ℕ) (in_second : List Bool) (lane : ℕ) → lane < n
    → code_given in_second (exchange_buffer lane) ≡ 8 + lane + 4 * bit (get_or (turn_marks n n in_second) lane false)
exchange-named n in_second lane h =
    let turned = get_d_tabulate _ n lane false h ∙ sym (on _ _ (lt-ltb lane n h) refl) in
    ap (λ (b : Bool). 8 + lane + 4 * bit b) (sym turned)
