-- `bank_slots::commands::take_telemetry_request_sent` meets its contract: it is refused, or gives the sent request in two slots and clears it.
-- Assumes nothing.
use Rattle.std.proofs.Common.{◌≡◌, rules}
use Rattle.bank_slots_spec.proofs.CommandCalls.{sent-taken, sent-told}
use Rattle.bank_slots_spec.proofs.FaultMoves.{sent-cleared}
use Rattle.bank_slots.proofs.commands.take_telemetry_request_sent.Goals as goal

pub returns : goal.returns
returns c =
    let a = c.args in
    let xs = a.bank.now in
    let out = a.out.now in
    let e : c.in_ok-state.state.now ≡ xs = search rules in
    rw e (record { called = λ b. sent-taken xs b (search rules) out (search rules) (sent-cleared xs (search rules)); out_after = λ b. sent-told xs b (search rules) out (search rules) (rw e at c.choice_slots.ensures) })
