-- `bank_slots::replies::count_reply` meets its contract: a reply counted in a lane's slots: the kind and number before it are not looked at.
-- Assumes nothing.
use Rattle.std.proofs.Common.{ap, ◌∙◌}
use Rattle.dshot_bank_spec.specs.State.{LaneReply}
use Rattle.dshot_reply.specs.Answers.{reply_answer}
use Rattle.dshot_bank.specs.States.{lane_reply_of}
use Rattle.bank_slots_spec.specs.Memory.{at, write}
use Rattle.bank_slots_spec.specs.Store.{lane_rows}
use Rattle.bank_slots_spec.specs.Load.{lane_from}
use Rattle.bank_slots_spec.proofs.ReplyMoves.{counts_of, counted-beside}
use Rattle.bank_slots.proofs.replies.count_reply.Goals as goal

pub returns : goal.returns
returns c =
    let a = c.args in
    let xs = a.state.now in
    let l = lane_from a.k (at xs) in
    let counted = c.counting.ensures ∙ counts_of l c.from.ensures c.word_at.ensures c.word_at-2.ensures c.word_at-3.ensures in
    c.put_lane.ensures
    ∙ ap (λ (v : LaneReply). write (lane_rows a.k v) xs) (counted-beside (reply_answer a.read) l (lane_reply_of c.counting.result) counted)
