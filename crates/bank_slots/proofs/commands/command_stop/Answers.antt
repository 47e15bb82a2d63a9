-- `bank_slots::commands::command_stop` meets its contract: a stop: refused, or done by `stop`.
-- Assumes nothing.
use Rattle.std.proofs.Common.{◌≡◌, rules}
use Rattle.bank_slots_spec.proofs.CalledLaws.{with-answer}
use Rattle.bank_slots_spec.proofs.CommandCalls.{stop-done}
use Rattle.bank_slots.proofs.commands.command_stop.Goals as goal

pub returns : goal.returns
returns c =
    let a = c.args in
    let e : c.in_ok-state.state.now ≡ a.bank.now = search rules in
    let all = with-answer (λ b. stop-done a.bank.now b (search rules) (rw e at c.stop.ensures)) in
    record { value = all.0; called = all.1 }
