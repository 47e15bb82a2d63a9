-- `bank_slots::steps::stop` meets its contract: the slots of a demand cleared.
-- Assumes nothing.
use Rattle.std.proofs.Common.{length, sym, ap, ◌∙◌, arith}
use Rattle.bank_slots_spec.specs.Memory.{write}
use Rattle.bank_slots_spec.specs.Places.{VALUES, LEASE_OVER}
use Rattle.bank_slots_spec.proofs.FaultMoves.{zeros, stopped}
use Rattle.bank_slots_spec.proofs.MemoryLaws.{length-write}
use Rattle.bank_slots_spec.proofs.MoveLaws.{moves-at}
use Rattle.bank_slots.proofs.Parts.{zeroed}
use Rattle.bank_slots.proofs.steps.stop.Goals as goal

pub returns : goal.returns
returns c =
    let xs = c.args.state.now in
    let values = zeroed VALUES 4 xs (c.fill.ensures.after (λ y h. h)) (omega arith) in
    let lease = zeroed LEASE_OVER 4 _ (c.fill-2.ensures.after (λ y h. h)) (omega (arith, ap length values ∙ length-write (zeros VALUES) xs)) in
    moves-at (sym (lease ∙ ap (write (zeros LEASE_OVER)) values)) (stopped xs c.told-state)
