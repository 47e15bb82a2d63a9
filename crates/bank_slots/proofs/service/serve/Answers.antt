-- `bank_slots::service::serve` meets its contract: a service: faulted, with a frame in flight, or sending.
-- Assumes nothing.
use Rattle.std.proofs.Common.{set, sym, ◌∙◌}
use Rattle.dshot_bank_spec.specs.State.{Buffers}
use Rattle.bank_slots_spec.proofs.FaultMoves.{sent-cleared}
use Rattle.dshot_bank_spec.specs.Service.{expire_lease}
use Rattle.bank_slots_spec.specs.Places.{REQUEST_SENT}
use Rattle.bank_slots_spec.specs.Moves.{Moves, on_core}
use Rattle.bank_slots_spec.proofs.MoveLaws.{moves-at}
use Rattle.bank_slots_spec.proofs.ServiceMoves.{lease-lasts, serve-faulted, serve-skips, serve-sends}
use Rattle.bank_slots.proofs.service.serve.Goals as goal
use Rattle.bank_slots.proofs.service.serve.Goals.{then-lease_expired, else-lease_expired}

pub returns-then-flag : goal.returns-then-flag
returns-then-flag c =
    let a = c.args in
    let b : Buffers = record { first = a.first.now; second = a.second.now } in
    serve-faulted a.now_ms a.lanes.now a.captures.now b (sent-cleared a.state.now c.told-state) (sym c.flag.ensures ∙ c.if-flag.true) c.tell_event.ensures

pub returns-then-flag-2 : goal.returns-then-flag-2
returns-then-flag-2 c =
    let a = c.args in
    let b : Buffers = record { first = a.first.now; second = a.second.now } in
    let fault = sym c.flag.ensures ∙ c.if-flag.false in
    let ends : Moves (on_core (expire_lease 4 c.expired-lease_expired.result)) (set a.state.now REQUEST_SENT 0) c.if-lease_expired.state =
    elim c.if-lease_expired.branch [
      | then-lease_expired w ↦ moves-at (sym w.state-is) (rw w.if-lease_expired.true w.end_lease.ensures)
      | else-lease_expired w ↦ moves-at (sym w.state-is) (lease-lasts c.expired-lease_expired.result w.if-lease_expired.false)
    ] in
    let busy = sym c.flag-2.ensures ∙ c.if-flag-2.true in
    serve-skips a.now_ms a.lanes.now a.captures.now b (sent-cleared a.state.now c.told-state) fault c.expired-lease_expired.result c.expired-lease_expired.ensures ends busy c.serve_busy.ensures

pub returns : goal.returns
returns c =
    let a = c.args in
    let b : Buffers = record { first = a.first.now; second = a.second.now } in
    let fault = sym c.flag.ensures ∙ c.if-flag.false in
    let ends : Moves (on_core (expire_lease 4 c.expired-lease_expired.result)) (set a.state.now REQUEST_SENT 0) c.if-lease_expired.state =
    elim c.if-lease_expired.branch [
      | then-lease_expired w ↦ moves-at (sym w.state-is) (rw w.if-lease_expired.true w.end_lease.ensures)
      | else-lease_expired w ↦ moves-at (sym w.state-is) (lease-lasts c.expired-lease_expired.result w.if-lease_expired.false)
    ] in
    let busy = sym c.flag-2.ensures ∙ c.if-flag-2.false in
    serve-sends a.now_ms a.lanes.now a.captures.now b (sent-cleared a.state.now c.told-state) fault c.expired-lease_expired.result c.expired-lease_expired.ensures ends busy c.read_replies.ensures c.send.ensures
