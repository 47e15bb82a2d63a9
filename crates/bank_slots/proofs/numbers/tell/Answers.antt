-- `bank_slots::numbers::tell` meets its contract: the parts of an answer, one behind the other.
-- Assumes nothing.
use Rattle.std.proofs.Common.{ℕ, ◌+◌, List, length, get_or, set, ap, ◌∙◌, arith, take_all}
use Rattle.bank_slots_spec.specs.Memory.{write}
use Rattle.bank_slots_spec.specs.Parts.{slot_rows}
use Rattle.bank_slots.proofs.Told.{write-more, told}
use Rattle.bank_slots.proofs.numbers.tell.Goals as goal

pub loop-i-preserved : goal.loop-i-preserved
loop-i-preserved g c =
    let first = c.args.first.now in
    let v = c.loop-i in
    ap (λ (l : List ℕ). set l (2 + v.i) (get_or first v.i 0)) v.invariant ∙ write-more first _ 2 v.i c.loop-i-test.true

pub loop-i-2-preserved : goal.loop-i-2-preserved
loop-i-2-preserved g c =
    let then = c.args.then.now in
    let v = c.loop-i-2 in
    let middle = 2 + length c.args.first.now in
    ap (λ (l : List ℕ). set l (middle + v.i) (get_or then v.i 0)) v.invariant ∙ write-more then _ middle v.i c.loop-i-2-test.true

pub returns : goal.returns
returns g c =
    let a = c.args in
    let first = a.first.now in
    let then = a.then.now in
    let start = set (set a.out.now 0 a.event) 1 (length first + length then) in
    told a.out.now first then a.event _ c.told-out c.requires.0
    (c.loop-i.invariant ∙ ap (λ (l : List ℕ). write (slot_rows 2 l) start) (take_all c.loop-i.i first (omega arith)))
    (c.loop-i-2.invariant ∙ ap (λ (l : List ℕ). write (slot_rows (2 + length first) l) c.loop-i.slots) (take_all c.loop-i-2.i then (omega arith)))
    (c.fill.ensures.after (λ y h. h))
