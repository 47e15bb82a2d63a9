-- `bank_slots::looks::is_bidirectional` meets its contract: whether the bank is bidirectional, as `look_flag` tells it.
-- Assumes nothing.
use Rattle.bank_slots_spec.proofs.LookLaws.{bidirectional-told}
use Rattle.bank_slots.proofs.looks.is_bidirectional.Goals as goal

pub returns : goal.returns
returns c =
    let a = c.args in
    let all = bidirectional-told a.bank.now a.out.now (c.look_flag.ensures.value, c.look_flag.ensures.out_after) in record { value = all.0; out_after = all.1 }
