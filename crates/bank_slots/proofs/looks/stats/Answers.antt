-- `bank_slots::looks::stats` meets its contract: the counts: refused, or copied as they stand.
-- Assumes nothing.
use Rattle.std.proofs.Common.{◌≡◌, arith, rules}
use Rattle.bank_slots_spec.proofs.LookLaws.{stats-told}
use Rattle.bank_slots.proofs.looks.stats.Goals as goal

pub returns : goal.returns
returns c =
    let a = c.args in
    let e : c.in_ok-state.state.now ≡ a.bank.now = search rules in
    let all = stats-told a.bank.now a.out.now (search rules) (λ i. omega (arith, c.type_inv.bank i)) (search rules) (rw e at c.copy_from_slice.ensures.after) in
    record { value = all.0; out_after = all.1 }
