-- `bank_slots::commands::enable_bidirectional` meets its contract: bidirectional DShot: refused, or the flag set.
-- Assumes nothing.
use Rattle.std.proofs.Common.{◌≡◌, ap, not, rules}
use Rattle.bank_slots_spec.proofs.CalledLaws.{with-answer}
use Rattle.bank_slots_spec.proofs.CommandCalls.{enable-refused, enabled}
use Rattle.bank_slots.proofs.commands.enable_bidirectional.Goals as goal

pub returns-then-not-receives_replies : goal.returns-then-not-receives_replies
returns-then-not-receives_replies c =
    let a = c.args in
    let e : c.in_ok-state.state.now ≡ a.bank.now = search rules in
    let all = with-answer (λ b. enable-refused a.bank.now b (search rules) a.receives_replies (ap not c.if-not-receives_replies.true)) in
    rw e (record { value = all.0; called = all.1 })

pub returns : goal.returns
returns c =
    let a = c.args in
    let e : c.in_ok-state.state.now ≡ a.bank.now = search rules in
    let all = with-answer (λ b. enabled a.bank.now b (search rules) a.receives_replies (ap not c.if-not-receives_replies.false)) in
    rw e (record { value = all.0; called = all.1 })
