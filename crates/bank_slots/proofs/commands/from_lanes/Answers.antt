-- `bank_slots::commands::from_lanes` meets its contract: a new bank: refused, or every slot written.
-- Assumes nothing.
use Rattle.std.proofs.Common.{◌≡◌, ℕ, ◌+◌, ◌*◌, List, length, set, replicate, ap, ◌∙◌, arith, rules}
use Rattle.dshot_bank_spec.specs.Lanes.{each}
use Rattle.bank_slots_spec.specs.Places.{REPLIES}
use Rattle.dshot_bank_spec.proofs.LaneLaws.{each_none, each_more, each_all}
use Rattle.bank_slots_spec.proofs.CommandCalls.{made}
use Rattle.bank_slots.proofs.NewBank.{with_no_reply, with_timing, new-written}
use Rattle.bank_slots.proofs.commands.from_lanes.Goals as goal

pub loop-lane-init : goal.loop-lane-init
loop-lane-init c = each_none _ _

pub loop-lane-preserved : goal.loop-lane-preserved
loop-lane-preserved c = each_more _ _ _ c.loop-lane.invariant (ap (set c.loop-lane.state (REPLIES + 9 * c.loop-lane.lane)) c.stored_kind-no_reply.ensures)

pub returns-clause-bank_after : goal.returns-clause-bank_after
returns-clause-bank_after c =
    let a = c.args in
    let n : length c.in_ok-state.state.now ≡ 97 = search rules in
    let t : c.in_ok-timing.timing.now ≡ a.timing.now = search rules in
    let zs = c.fill.new.self in
    let all = made a.bank.now a.timing.now (search rules) (search rules) (c.fill.ensures.after (λ y h. h) ∙ ap (λ (k : ℕ). replicate k 0) n) in
    each_all with_no_reply _ (omega arith) c.loop-lane-test.false c.loop-lane.invariant
    ∙ ap (λ (l : List ℕ). each 4 with_no_reply (with_timing l zs)) t
    ∙ new-written a.timing.now zs
    ∙ all.1
