-- `bank_slots::looks::reply_stats` meets its contract: the counts of replies: refused, or a word after the other.
-- Assumes nothing.
use Rattle.std.proofs.Common.{◌≡◌, ℕ, ◌+◌, ◌*◌, ap, ◌∙◌, arith, rules}
use Rattle.dshot_bank_spec.specs.Lanes.{each}
use Rattle.bank_slots_spec.specs.Memory.{write, word_rows}
use Rattle.dshot_bank_spec.proofs.LaneLaws.{each_none, each_more, each_all}
use Rattle.bank_slots.proofs.Copied.{counts_copied, all-copied}
use Rattle.bank_slots.proofs.looks.reply_stats.Goals as goal

pub loop-count-init : goal.loop-count-init
loop-count-init c = each_none _ _

pub loop-lane-init : goal.loop-lane-init
loop-lane-init c = each_none _ _

pub loop-lane-preserved : goal.loop-lane-preserved
loop-lane-preserved c = each_more _ _ _ c.loop-lane.invariant
    (c.put_word.ensures ∙ ap (λ (n : ℕ). write (word_rows (8 * c.loop-count.count + 2 * c.loop-lane.lane) n) c.loop-lane.out) c.word_at.ensures)

pub loop-count-preserved : goal.loop-count-preserved
loop-count-preserved c = each_more _ _ _ c.loop-count.invariant (each_all _ _ (omega arith) c.loop-lane-test.false c.loop-lane.invariant)

pub returns : goal.returns
returns c =
    let a = c.args in
    let e : c.in_ok-state.state.now ≡ a.bank.now = search rules in
    let all = all-copied a.bank.now a.out.now (search rules) (search rules) in
    let o : c.in_ok-out.out.now ≡ a.out.now = search rules in
    record { value = all.0; out_after = λ b. each_all _ _ (omega arith) c.loop-count-test.false c.loop-count.invariant ∙ (λ j. each 3 (counts_copied (e j)) (o j)) ∙ all.1 b }
