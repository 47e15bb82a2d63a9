-- `bank_slots::looks::command_pending` meets its contract: whether a run is being sent, as `look_flag` tells it.
-- Assumes nothing.
use Rattle.bank_slots_spec.proofs.LookLaws.{pending-told}
use Rattle.bank_slots.proofs.looks.command_pending.Goals as goal

pub returns : goal.returns
returns c =
    let a = c.args in
    let all = pending-told a.bank.now a.out.now (c.look_flag.ensures.value, c.look_flag.ensures.out_after) in record { value = all.0; out_after = all.1 }
