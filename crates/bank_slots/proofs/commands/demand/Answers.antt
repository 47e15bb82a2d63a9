-- `bank_slots::commands::demand` meets its contract: the slots of a demand and of its lease.
-- Assumes nothing.
use Rattle.std.proofs.Common.{◌≡◌, ℕ, ◌+◌, List, refl, ap, ◌∙◌, arith}
use Rattle.dshot_spec.specs.Throttle.{throttle_values}
use Rattle.dshot_spec.specs.Tabulate.{tabulate}
use Rattle.bank_slots_spec.specs.Memory.{Row, at, write, long_rows}
use Rattle.bank_slots_spec.specs.Places.{VALUES, LEASE_STARTED, LEASE_OVER}
use Rattle.bank_slots_spec.specs.Load.{four}
use Rattle.bank_slots_spec.proofs.CommandMoves.{joined_of, values-joined, demand-parts}
use Rattle.bank_slots.proofs.commands.demand.Goals as goal

pub returns : goal.returns
unfolding throttle_values tabulate
returns c =
    let a = c.args in
    let xs = a.state.now in
    let given = four (at a.commands.now) in
    let joined : ◌≡◌ _ (joined_of (throttle_values 4 given)) = rw (c.throttle_to_dshot.ensures, c.throttle_to_dshot-2.ensures, c.throttle_to_dshot-3.ensures, c.throttle_to_dshot-4.ensures) refl in
    let values = c.put_long.ensures
    ∙ ap (λ (n : ℕ). write (long_rows VALUES n) xs) (c.joined_long.ensures ∙ joined)
    ∙ ap (λ (rows : List Row). write rows xs) (values-joined given) in
    demand-parts xs a.commands.now _ _ c.told-state (omega (arith, c.ranges.now_ms)) (omega (arith, c.ranges.lease_duration_ms)) refl
    (c.put_long-2.ensures ∙ ap (write (long_rows LEASE_STARTED a.now_ms)) values)
    (c.put_long-3.ensures ∙ ap (λ (n : ℕ). write (long_rows LEASE_OVER (n + 1)) c.put_long-2.new.state) c.from.ensures)
