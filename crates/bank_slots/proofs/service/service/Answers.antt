-- `bank_slots::service::service` meets its contract: the call: its three promises, by one law a return.
-- Assumes nothing.
use Rattle.std.proofs.Common.{◌≡◌, rules}
use Rattle.dshot_reply.specs.Refusals.{status_number}
use Rattle.bank_slots_spec.proofs.ServiceMoves.{call-unfit, call-lanes, call-short, call-refused, call-done}
use Rattle.bank_slots.proofs.service.service.Goals as goal

pub returns-in_err-state : goal.returns-in_err-state
returns-in_err-state c =
    let a = c.args in
    let r : status_number c.from_residual.result ≡ 13 = search rules in
    let all = call-unfit a.now_ms a.lanes.now a.captures.now a.first.now a.second.now a.bank.now a.out.now (search rules) in
    rw (r) (record { called = all.0; fact = all.1.0; out_after = all.1.1 })

pub returns-in_err-lanes : goal.returns-in_err-lanes
returns-in_err-lanes c =
    let a = c.args in
    let e : c.in_ok-state.state.now ≡ a.bank.now = search rules in
    let r : status_number c.from_residual-in_err-lanes.result ≡ 13 = search rules in
    let all = call-lanes a.now_ms a.lanes.now a.captures.now a.first.now a.second.now a.bank.now a.out.now (search rules) (search rules) in
    rw (e, r) (record { called = all.0; fact = all.1.0; out_after = all.1.1 })

pub returns-in_err-out : goal.returns-in_err-out
returns-in_err-out c =
    let a = c.args in
    let e : c.in_ok-state.state.now ≡ a.bank.now = search rules in
    let r : status_number c.from_residual-in_err-out.result ≡ 13 = search rules in
    let all = call-short a.now_ms a.lanes.now a.captures.now a.first.now a.second.now a.bank.now a.out.now (search rules) (search rules) (search rules) in
    rw (e, r) (record { called = all.0; fact = all.1.0; out_after = all.1.1 })

pub returns-in_err-first : goal.returns-in_err-first
returns-in_err-first c =
    let a = c.args in
    let e : c.in_ok-state.state.now ≡ a.bank.now = search rules in
    let o : c.in_ok-out.out.now ≡ a.out.now = search rules in
    let r : status_number c.from_residual-in_err-first.result ≡ 13 = search rules in
    let all = call-refused a.now_ms a.lanes.now a.captures.now a.first.now a.second.now a.bank.now a.out.now (search rules) (search rules) (search rules) (search rules) in
    rw (e, o, r) (record { called = all.0; fact = all.1.0; out_after = all.1.1 })

pub returns-in_err-second : goal.returns-in_err-second
returns-in_err-second c =
    let a = c.args in
    let e : c.in_ok-state.state.now ≡ a.bank.now = search rules in
    let o : c.in_ok-out.out.now ≡ a.out.now = search rules in
    let f : c.in_ok-first.first.now ≡ a.first.now = search rules in
    let r : status_number c.from_residual-in_err-second.result ≡ 13 = search rules in
    let all = call-refused a.now_ms a.lanes.now a.captures.now a.first.now a.second.now a.bank.now a.out.now (search rules) (search rules) (search rules) (search rules) in
    rw (e, o, f, r) (record { called = all.0; fact = all.1.0; out_after = all.1.1 })

pub returns-in_err-captures : goal.returns-in_err-captures
returns-in_err-captures c =
    let a = c.args in
    let e : c.in_ok-state.state.now ≡ a.bank.now = search rules in
    let o : c.in_ok-out.out.now ≡ a.out.now = search rules in
    let f : c.in_ok-first.first.now ≡ a.first.now = search rules in
    let s : c.in_ok-second.second.now ≡ a.second.now = search rules in
    let r : status_number c.from_residual-in_err-captures.result ≡ 13 = search rules in
    let all = call-refused a.now_ms a.lanes.now a.captures.now a.first.now a.second.now a.bank.now a.out.now (search rules) (search rules) (search rules) (search rules) in
    rw (e, o, f, s, r) (record { called = all.0; fact = all.1.0; out_after = all.1.1 })

pub returns : goal.returns
returns c =
    let a = c.args in
    let e : c.in_ok-state.state.now ≡ a.bank.now = search rules in
    let l : c.in_ok-lanes.lanes.now ≡ a.lanes.now = search rules in
    let f : c.in_ok-first.first.now ≡ a.first.now = search rules in
    let s : c.in_ok-second.second.now ≡ a.second.now = search rules in
    let k : c.in_ok-captures.captures.now ≡ a.captures.now = search rules in
    let all = call-done a.now_ms a.lanes.now a.captures.now a.first.now a.second.now a.bank.now a.out.now (search rules) (search rules) (search rules) (search rules) (rw (e, l, f, s, k) at c.serve.ensures) in
    record { called = all.0; fact = all.1.0; out_after = all.1.1 }
