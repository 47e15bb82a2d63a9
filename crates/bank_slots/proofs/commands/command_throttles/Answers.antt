-- `bank_slots::commands::command_throttles` meets its contract: throttles: each refusal in its turn, or a stop, or a demand.
-- Assumes nothing.
use Rattle.std.proofs.Common.{◌≡◌, rules}
use Rattle.bank_slots_spec.proofs.CalledLaws.{with-answer}
use Rattle.bank_slots_spec.proofs.CommandCalls.{throttles-faulted, throttles-high, throttles-stop, throttled}
use Rattle.dshot_bank.proofs.LaneTests.{any_is}
use Rattle.bank_slots.proofs.commands.command_throttles.Goals as goal

pub returns-then-flag : goal.returns-then-flag
returns-then-flag c =
    let a = c.args in
    let e : c.in_ok-state.state.now ≡ a.bank.now = search rules in
    let all = with-answer (λ b. throttles-faulted a.bank.now b (search rules) a.commands.now a.now_ms a.lease_duration_ms (search rules) (search rules)) in
    rw e (record { value = all.0; called = all.1 })

pub returns-then-any_above : goal.returns-then-any_above
returns-then-any_above c =
    let a = c.args in
    let e : c.in_ok-state.state.now ≡ a.bank.now = search rules in
    let all = with-answer (λ b. throttles-high a.bank.now b (search rules) a.commands.now a.now_ms a.lease_duration_ms (search rules) (search rules) (search (rules, any_is))) in
    rw e (record { value = all.0; called = all.1 })

pub returns-then-not-any_above : goal.returns-then-not-any_above
returns-then-not-any_above c =
    let a = c.args in
    let e : c.in_ok-state.state.now ≡ a.bank.now = search rules in
    let all = with-answer (λ b. throttles-stop a.bank.now b (search rules) a.commands.now a.now_ms a.lease_duration_ms (search rules) (search rules) (search (rules, any_is)) (search (rules, any_is)) (rw e at c.stop.ensures)) in
    record { value = all.0; called = all.1 }

pub returns : goal.returns
returns c =
    let a = c.args in
    let e : c.in_ok-state.state.now ≡ a.bank.now = search rules in
    let s : c.in_ok-commands.commands.now ≡ a.commands.now = search rules in
    let all = with-answer (λ b. throttled a.bank.now b (search rules) a.commands.now a.now_ms a.lease_duration_ms (search rules) (search rules) (search (rules, any_is)) (search (rules, any_is)) (rw (e, s) at c.demand.ensures)) in
    record { value = all.0; called = all.1 }
