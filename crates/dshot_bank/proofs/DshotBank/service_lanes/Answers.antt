-- `dshot_bank::DshotBank::service_lanes` meets its contract. The two returns without a frame set are given here.
-- Assumes nothing.
use Rattle.std.proofs.Common.{[], sym, refl, ap, ◌∙◌, subst}
use Rattle.dshot_bank_spec.proofs.LaneLaws.{on, off}
use Rattle.dshot_bank_spec.specs.State.{Core, Buffers}
use Rattle.dshot_bank_spec.specs.Commands.{clear_request_sent}
use Rattle.dshot_bank_spec.specs.Service.{expire_lease, service_busy, skipped, unsent, service_core}
use Rattle.dshot_bank_spec.specs.Service as Spec
use Rattle.dshot_bank.specs.States.{core_of, replies_of}
use Rattle.dshot_bank.specs.declared.send.Handled.{Handled}
use Rattle.dshot_bank.specs.declared.service.DshotServiceEvent.{DshotServiceEvent}
use Rattle.dshot_bank.specs.Serves.{service_event_of, Serves}
use Rattle.dshot_bank.proofs.DshotBank.service_lanes.Goals as goal

pub returns-then-core : goal.returns-then-core
unfolding service_core clear_request_sent
returns-then-core c =
    let a = c.args in
    let b : Buffers = record { first = a.first.now; second = a.second.now } in
    subst (λ (s : Spec.Served). Serves c.served.result b s) (on _ _ c.if-core.true refl)
    (c.served.ensures b (skipped Spec.faulted [] (clear_request_sent (core_of a.self.core)))
    (record {
      event = ap (λ (h : Handled DshotServiceEvent). service_event_of h.event) c.handled.ensures;
      orders = ap (λ (h : Handled DshotServiceEvent). h.orders) c.handled.ensures ∙ c.none.ensures.2;
      duties = refl;
      core = ap (λ (h : Handled DshotServiceEvent). core_of h.core) c.handled.ensures;
    }))

pub returns-then-core-2 : goal.returns-then-core-2
unfolding service_core clear_request_sent
returns-then-core-2 c =
    let a = c.args in
    let b : Buffers = record { first = a.first.now; second = a.second.now } in
    let cleared = clear_request_sent (core_of a.self.core) in
    let expired = c.expire_lease-lease_expired.ensures.value in
    let leased = c.expire_lease-lease_expired.ensures.core ∙ (λ j. expire_lease 4 (expired j) cleared) in
    let busy = sym (ap (λ (q : Core). q.frame.busy) leased) ∙ c.if-core-2.true in
    subst (λ (s : Spec.Served). Serves c.served-then-core-2.result b s)
    ((λ j. unsent 4 a.now_ms a.answers.taken a.answers.present a.answers.masks a.captures.now (replies_of a.self.replies) b (service_busy 4 a.now_ms (expired j) (leased j)))
    ∙ off _ _ c.if-core.false (on _ _ busy refl))
    (c.served-then-core-2.ensures b _ c.service_busy.ensures)
