-- `bank_slots::looks::is_faulted` meets its contract: whether the bank is faulted, as `look_flag` tells it.
-- Assumes nothing.
use Rattle.bank_slots_spec.proofs.LookLaws.{faulted-told}
use Rattle.bank_slots.proofs.looks.is_faulted.Goals as goal

pub returns : goal.returns
returns c =
    let a = c.args in
    let all = faulted-told a.bank.now a.out.now (c.look_flag.ensures.value, c.look_flag.ensures.out_after) in record { value = all.0; out_after = all.1 }
