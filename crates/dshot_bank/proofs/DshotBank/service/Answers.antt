-- `dshot_bank::DshotBank::service` meets its contract: what is served, with its orders.
-- Assumes nothing.
use Rattle.std.proofs.Common.{◌≡◌, Bool, List, true, length, sym, ap, ◌∙◌}
use Rattle.dshot_bank_spec.specs.State.{Buffers}
use Rattle.dshot_bank_spec.specs.Order.{Order}
use Rattle.dshot_bank_spec.specs.Calls.{State, act, service_call}
use Rattle.dshot_bank_spec.specs.Steps.{length_refusal, refuse_or, service_fits, port_refusal, step}
use Rattle.dshot_bank.specs.States.{state_of}
use Rattle.dshot_bank.specs.Orders.{orders_in}
use Rattle.dshot_bank.specs.Serves.{service_answer}
use Rattle.dshot_bank.proofs.OrderLaws.{back, just, whole-service}
use Rattle.dshot_bank.proofs.DshotBank.service.Goals as goal

pub returns : goal.returns
unfolding step port_refusal
returns c =
    let a = c.args in
    let b : Buffers = record { first = a.first.now; second = a.second.now } in
    let s : State = state_of a.self b in
    let acted = act 4 s (service_call a.now_ms a.answers.taken a.answers.present a.answers.masks a.captures.now) in
    let first = c.in-Some.ensures.cases in
    let second = c.in-Some-as_mut_array.ensures.cases in
    let captures = c.in-Some-as_array.ensures.cases in
    let fit : service_fits 4 (length a.first.now) (length a.second.now) (length a.captures.now) ≡ true = (λ j. service_fits 4 (first.long j) (second.long j) (captures.long j)) in
    let r = c.service_lanes.result in
    let h = c.service_lanes.ensures in
    let lent : Buffers = record { first = c.in-Some.first.now; second = c.in-Some-as_mut_array.second.now } in
    let told = back r.orders r.first_duties _ h.orders h.duties (whole-service a.now_ms a.answers.taken a.answers.present a.answers.masks c.in-Some-as_array.captures.now s.bank lent) in
    let marks = s.bank.core.frame.in_second in
    let answer = ap (λ (l : List Order). service_answer r.answer l marks) told ∙ h.answer marks in
    record {
      fact = (λ j. record { answer = answer j; state = record { bank = h.bank j; buffers = h.buffers j } })
          ∙ (λ j. act 4 (state_of a.self (record { first = first.same j; second = second.same j })) (service_call a.now_ms a.answers.taken a.answers.present a.answers.masks (captures.same j)))
          ∙ sym (ap (λ (t : Bool). refuse_or s (length_refusal t 0) acted) fit);
      just = just r.orders r.first_duties _ _ h.orders h.duties (ap orders_in answer);
    }
