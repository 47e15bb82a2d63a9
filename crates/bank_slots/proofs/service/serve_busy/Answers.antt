-- `bank_slots::service::serve_busy` meets its contract: a service while a frame is in flight: late, with a lease that has expired, or neither.
-- Assumes nothing.
use Rattle.std.proofs.Common.{ℕ, sym, ap, ◌∙◌}
use Rattle.dshot_spec.specs.Lease.{lease_expired}
use Rattle.bank_slots_spec.proofs.ServiceMoves.{busy-late, busy-expired, busy-busy}
use Rattle.bank_slots.proofs.service.serve_busy.Goals as goal
use Rattle.bank_slots.proofs.service.serve_busy.Goals.{then-lease_expired, else-lease_expired}

pub returns-then-command_lease_expired : goal.returns-then-command_lease_expired
returns-then-command_lease_expired c =
    let a = c.args in
    let late = sym (ap (λ (s : ℕ). lease_expired s 1 a.now_ms) c.long_at.ensures) ∙ sym c.command_lease_expired.ensures ∙ c.if-command_lease_expired.true in
    busy-late a.now_ms c.count_busy_skip.ensures a.lease_expired late c.time_out.ensures c.tell.ensures

pub returns : goal.returns
returns c =
    let a = c.args in
    let late = sym (ap (λ (s : ℕ). lease_expired s 1 a.now_ms) c.long_at.ensures) ∙ sym c.command_lease_expired.ensures ∙ c.if-command_lease_expired.false in
    let told = c.tell_event.ensures in
    elim c.if-lease_expired.branch [
      | then-lease_expired w ↦ busy-expired a.now_ms c.count_busy_skip.ensures a.lease_expired late w.if-lease_expired.true (rw w.event-is at told)
      | else-lease_expired w ↦ busy-busy a.now_ms c.count_busy_skip.ensures a.lease_expired late w.if-lease_expired.false (rw w.event-is at told)
    ]
