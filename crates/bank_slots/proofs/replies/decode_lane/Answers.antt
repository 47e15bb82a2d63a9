-- `bank_slots::replies::decode_lane` meets its contract: a lane's window read, and its reply counted.
-- Assumes nothing.
use Rattle.std.proofs.Common.{ℕ, ◌+◌, ◌*◌, false, List, get_or, sym, refl, ap, ◌∙◌, arith}
use Rattle.dshot_reply_spec.specs.Answer.{Answer}
use Rattle.dshot_reply_spec.specs.Value.{Reading}
use Rattle.dshot_reply_spec.specs.Reading.{sampled_reply}
use Rattle.dshot_bank_spec.specs.Replies.{count_reply}
use Rattle.dshot_bank_spec.proofs.LaneLaws.{on, off}
use Rattle.bank_slots_spec.specs.Memory.{at, write}
use Rattle.bank_slots_spec.specs.Places.{REPLIES}
use Rattle.bank_slots_spec.specs.Store.{lane_rows}
use Rattle.bank_slots_spec.specs.Load.{lane_from}
use Rattle.bank_slots.proofs.Parts.{part-is}
use Rattle.bank_slots.proofs.replies.decode_lane.Goals as goal

pub returns-then-not-flag : goal.returns-then-not-flag
returns-then-not-flag c =
    let a = c.args in
    let xs = a.state.now in
    let k = REPLIES + 9 * a.lane in
    let absent = sym c.flag.ensures ∙ c.if-not-flag.true in
    c.count_reply.ensures
    ∙ ap (λ (r : Answer Reading). write (lane_rows k (count_reply r (lane_from k (at xs)))) xs) (off _ _ absent refl)

pub returns : goal.returns
returns c =
    let a = c.args in
    let xs = a.state.now in
    let k = REPLIES + 9 * a.lane in
    let lanes = a.lanes.now in
    let present = sym c.flag.ensures ∙ c.if-not-flag.false in
    c.count_reply-2.ensures
    ∙ ap (λ (r : Answer Reading). write (lane_rows k (count_reply r (lane_from k (at xs)))) xs)
    (on _ _ present (c.decode_sampled_reply-read.ensures ∙ ap (λ (s : List ℕ). sampled_reply 3 s (get_or lanes (8 + a.lane) 0) false) (part-is 160 a.lane _ a.captures.now (omega arith))))
