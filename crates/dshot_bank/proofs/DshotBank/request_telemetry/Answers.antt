-- `dshot_bank::DshotBank::request_telemetry` meets its contract.
-- Assumes nothing.
use Rattle.std.proofs.Common.{ap, ◌∙◌}
use Rattle.dshot_reply_spec.specs.Answer.{Answer}
use Rattle.dshot_bank_spec.specs.State.{Core}
use Rattle.dshot_bank_spec.specs.Calls.{commanded}
use Rattle.dshot_bank.specs.States.{state_of}
use Rattle.dshot_bank.specs.Answers.{request_error_number}
use Rattle.dshot_bank.proofs.CommandLaws.{request}
use Rattle.dshot_bank.proofs.DshotBank.request_telemetry.Goals as goal

pub returns : goal.returns
returns c = λ b.
    let a = c.args in
    let s = state_of a.self b in
    c.commanded.ensures request_error_number b ∙ ap (λ (q : Answer Core). commanded s q) c.requested.ensures ∙ request s a.motor
