-- `bank_slots::send::turn_marks` meets its contract: the marks of the first lanes, one after another.
-- Assumes nothing.
use Rattle.std.proofs.Common.{◌≡◌, ◌+◌, ◌-◌, Bool, not, length, sym, ap, ◌∙◌, arith, length-drop, length-take}
use borrow.Rule.Slice.PartMut.{mid_of, put_same}
use Rattle.dshot_bank_spec.proofs.LaneLaws.{each_none, each_more, each_all}
use Rattle.bank_slots_spec.specs.Places.{IN_SECOND}
use Rattle.bank_slots_spec.specs.Store.{bit}
use Rattle.bank_slots_spec.proofs.MoveLaws.{moves-at}
use Rattle.bank_slots.proofs.Parts.{bit_is}
use Rattle.bank_slots.proofs.Lanes.{mark_turned, part_turned, first-turned}
use Rattle.bank_slots.proofs.send.turn_marks.Goals as goal

pub loop-mark-init : goal.loop-mark-init
loop-mark-init c = put_same IN_SECOND _ c.args.state.now ∙ each_none _ _

pub loop-mark-preserved : goal.loop-mark-preserved
loop-mark-preserved c =
    let l = c.loop-mark in
    each_more _ _ _ l.invariant
    (part_turned _ l.mark-index c.from.result c.args.state.now l.mark-items (omega (arith, c.told-state)) (omega (arith, c.loop-mark-test.true, l.auto.mark-items)) (c.from.ensures ∙ bit_is (not c.flag.result) ∙ ap (λ (m : Bool). bit (not m)) c.flag.ensures))

pub returns : goal.returns
returns c =
    let xs = c.args.state.now in
    let t = c.args.turned in
    let size : length (mid_of IN_SECOND (IN_SECOND + t - IN_SECOND) xs) ≡ t = simp (length-take, length-drop) (omega (arith, c.told-state, c.requires)) in
    moves-at (sym (each_all mark_turned _ (omega (arith, size)) (omega (arith, size, c.loop-mark-test.false)) c.loop-mark.invariant)) (first-turned xs c.told-state t c.requires)
