-- `bank_slots::looks::requested_values` meets its contract: it is refused, or gives the four values in four slots.
-- Assumes nothing.
use Rattle.std.proofs.Common.{◌≡◌, ℕ, ◌+◌, length, sym, ◌∙◌, rules}
use Rattle.bank_slots_spec.specs.Memory.{at}
use Rattle.bank_slots_spec.specs.Places.{VALUES}
use Rattle.bank_slots_spec.specs.Load.{four, load}
use Rattle.bank_slots_spec.proofs.FillLaws.{filled}
use Rattle.bank_slots_spec.proofs.LookLaws.{values-told}
use Rattle.bank_slots.proofs.looks.requested_values.Goals as goal

pub returns : goal.returns
unfolding load
returns c =
    let a = c.args in
    let xs = a.bank.now in
    let e : c.in_ok-state.state.now ≡ xs = search rules in
    let n : length xs ≡ 97 = search rules in
    let l : length a.out.now ≡ 4 = search rules in
    let all = values-told xs a.out.now n l in
    record { value = all.0; out_after = λ b. rw e at c.values_at.ensures ∙ sym (filled (four (λ (i : ℕ). at xs (VALUES + i))) a.out.now l) ∙ all.1 b }
