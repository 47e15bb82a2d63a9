-- `bank_slots::looks::take_replies` meets its contract: it is refused, or gives each lane's reply, and none are held after it.
-- Assumes nothing.
use Rattle.std.proofs.Common.{◌≡◌, ◌+◌, ◌*◌, set, ap, ◌∙◌, arith, rules}
use Rattle.dshot_reply_spec.specs.Answer.{Answer, refused, pick}
use Rattle.dshot_reply_spec.specs.Refusals.{no_reply}
use Rattle.dshot_reply_spec.specs.Value.{Reading}
use Rattle.dshot_reply.specs.Answers.{reply_answer}
use Rattle.bank_slots_spec.specs.Memory.{at, word, write}
use Rattle.bank_slots_spec.specs.Places.{REPLIES}
use Rattle.bank_slots_spec.specs.Load.{reply}
use Rattle.bank_slots_spec.specs.Outs.{reply_slots}
use Rattle.bank_slots_spec.specs.Parts.{slot_rows}
use Rattle.dshot_bank_spec.specs.Lanes.{each}
use Rattle.dshot_bank_spec.proofs.LaneLaws.{on, off, each_none, each_more, each_all}
use Rattle.bank_slots.proofs.Copied.{reply_handed, all-handed}
use Rattle.bank_slots.proofs.Parts.{bit_is}
use Rattle.bank_slots.proofs.looks.take_replies.Goals as goal
use Rattle.bank_slots.proofs.looks.take_replies.Goals.{then-held, else-held}

pub loop-lane-init : goal.loop-lane-init
loop-lane-init c = each_none _ _

pub loop-lane-preserved : goal.loop-lane-preserved
loop-lane-preserved c =
    let xs = c.in_ok-state.state.now in
    let from = REPLIES + 9 * c.loop-lane.lane in
    let read : reply_answer c.if-held.read ≡ pick c.flag-held.result (reply (at xs from) (word (from + 1) (at xs))) (refused no_reply) =
    elim c.if-held.branch [
      | then-held w ↦ on _ _ w.if-held.true (ap reply_answer w.read-is ∙ w.reply_at-read.ensures)
      | else-held w ↦ off _ _ w.if-held.false (ap reply_answer w.read-is)
    ] in
    each_more _ _ _ c.loop-lane.invariant (c.put_reply.ensures ∙ ap (λ (r : Answer Reading). write (slot_rows (1 + 4 * c.loop-lane.lane) (reply_slots r)) c.loop-lane.out) read)

pub returns : goal.returns
returns c =
    let a = c.args in
    let e : c.in_ok-state.state.now ≡ a.bank.now = search rules in
    let o : c.in_ok-out.out.now ≡ a.out.now = search rules in
    let all = all-handed a.bank.now a.out.now (search rules) (search rules) (rw e at c.flag-held.ensures) in
    rw e (record {
      called = all.0;
      out_after = λ b.
          each_all _ _ (omega arith) c.loop-lane-test.false c.loop-lane.invariant
          ∙ (λ j. each 4 (reply_handed (e j) c.flag-held.result) (set (o j) 0 ((c.from.ensures ∙ bit_is c.flag-held.result) j)))
          ∙ all.1 b;
    })
