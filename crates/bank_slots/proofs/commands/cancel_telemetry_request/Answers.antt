-- `bank_slots::commands::cancel_telemetry_request` meets its contract: a request withdrawn: refused, or its slot cleared.
-- Assumes nothing.
use Rattle.std.proofs.Common.{◌≡◌, rules}
use Rattle.bank_slots_spec.proofs.CalledLaws.{with-answer}
use Rattle.bank_slots_spec.proofs.CommandCalls.{cancel-done}
use Rattle.bank_slots_spec.proofs.FaultMoves.{request-cleared}
use Rattle.bank_slots.proofs.commands.cancel_telemetry_request.Goals as goal

pub returns : goal.returns
returns c =
    let a = c.args in
    let e : c.in_ok-state.state.now ≡ a.bank.now = search rules in
    let all = with-answer (λ b. cancel-done a.bank.now b (search rules) (request-cleared a.bank.now (search rules))) in
    rw e (record { value = all.0; called = all.1 })
