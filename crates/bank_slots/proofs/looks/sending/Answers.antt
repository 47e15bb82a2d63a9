-- `bank_slots::looks::sending` meets its contract: a lane's sequence: refused, or copied out of the buffer that its mark names.
-- Assumes nothing.
use Rattle.std.proofs.Common.{◌≡◌, sym, rules}
use Rattle.dshot_reply.specs.Refusals.{status_number}
use Rattle.dshot_reply_spec.specs.Answer.{pick}
use Rattle.dshot_bank_spec.specs.State.{Buffers}
use Rattle.bank_slots.proofs.View.{unfit-view, missing-view, shown-view}
use Rattle.bank_slots.proofs.looks.sending.Goals as goal
use Rattle.bank_slots.proofs.looks.sending.Goals.{then-in_second, else-in_second}

pub returns-then-motor-ge-LANES : goal.returns-then-motor-ge-LANES
returns-then-motor-ge-LANES c =
    let a = c.args in
    let b : Buffers = record { first = a.first.now; second = a.second.now } in
    let o : c.in_ok-out.out.now ≡ a.out.now = search rules in
    let all = missing-view a.bank.now a.out.now b a.motor (search rules) (search rules) (search rules) c.if-motor-ge-LANES.true in
    rw (o) (record { value = all.0; out_after = all.1 })

pub returns-in_err-first : goal.returns-in_err-first
returns-in_err-first c =
    let a = c.args in
    let b : Buffers = record { first = a.first.now; second = a.second.now } in
    let o : c.in_ok-out.out.now ≡ a.out.now = search rules in
    let r : status_number c.from_residual-in_err-first.result ≡ 13 = search rules in
    let all = unfit-view a.bank.now a.out.now b a.motor (search rules) (search rules) (search rules) in
    rw (o, r) (record { value = all.0; out_after = all.1 })

pub returns-in_err-second : goal.returns-in_err-second
returns-in_err-second c =
    let a = c.args in
    let b : Buffers = record { first = a.first.now; second = a.second.now } in
    let o : c.in_ok-out.out.now ≡ a.out.now = search rules in
    let r : status_number c.from_residual-in_err-second.result ≡ 13 = search rules in
    let all = unfit-view a.bank.now a.out.now b a.motor (search rules) (search rules) (search rules) in
    rw (o, r) (record { value = all.0; out_after = all.1 })

pub returns : goal.returns
returns c =
    let a = c.args in
    let b : Buffers = record { first = a.first.now; second = a.second.now } in
    let e : c.in_ok-state.state.now ≡ a.bank.now = search rules in
    let s : c.if-in_second.sent.now ≡ pick c.flag-in_second.result a.second.now a.first.now =
    elim c.if-in_second.branch [ then-in_second w ↦ search rules | else-in_second w ↦ search rules ] in
    let all = shown-view a.bank.now a.out.now b a.motor (search rules) (search rules) (search rules) c.if-motor-ge-LANES.false (sym (rw e at c.flag-in_second.ensures)) s c.copy_from_slice.ensures.after in
    record { value = all.0; out_after = all.1 }
