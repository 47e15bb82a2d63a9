-- `bank_slots::steps::clear_run` meets its contract: the slots of a run cleared.
-- Assumes nothing.
use Rattle.std.proofs.Common.{sym, arith}
use Rattle.bank_slots_spec.specs.Places.{RUN}
use Rattle.bank_slots_spec.proofs.FaultMoves.{run-cleared}
use Rattle.bank_slots_spec.proofs.MoveLaws.{moves-at}
use Rattle.bank_slots.proofs.Parts.{zeroed}
use Rattle.bank_slots.proofs.steps.clear_run.Goals as goal

pub returns : goal.returns
returns c =
    let xs = c.args.state.now in
    moves-at (sym (zeroed RUN 5 xs (c.fill.ensures.after (λ y h. h)) (omega arith))) (run-cleared xs c.told-state)
