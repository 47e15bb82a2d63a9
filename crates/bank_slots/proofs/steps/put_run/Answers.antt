-- `bank_slots::steps::put_run` meets its contract: the slots of a run written.
-- Assumes nothing.
use Rattle.std.proofs.Common.{◌+◌, get_or, set, sym, rules}
use Rattle.dshot.specs.Answers.{run_of}
use Rattle.dshot_bank.specs.States.{motor_of}
use Rattle.bank_slots_spec.specs.Places.{RUN}
use Rattle.bank_slots_spec.proofs.FaultMoves.{run-put}
use Rattle.bank_slots_spec.proofs.MoveLaws.{moves-at}
use Rattle.bank_slots.proofs.Motors.{motor_small}
use Rattle.bank_slots.proofs.Tags.{motor_tag}
use Rattle.bank_slots.proofs.steps.put_run.Goals as goal

pub returns : goal.returns
returns c =
    let a = c.args in
    let two = set (set (set a.state.now RUN ((motor_of a.motor) + 1)) (RUN + 1) (get_or a.run.commands 0 0)) (RUN + 2) (get_or a.run.commands 1 0) in
    rw (motor_tag a.motor) (moves-at (λ j. set (set two (RUN + 3) (sym c.from.ensures j)) (RUN + 4) (sym c.from-2.ensures j))
    (run-put a.state.now c.told-state (motor_of a.motor) (run_of a.run) (motor_small a.motor) (search rules) (search rules) (search rules)))
