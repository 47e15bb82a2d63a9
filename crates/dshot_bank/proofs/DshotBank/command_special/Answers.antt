-- `dshot_bank::DshotBank::command_special` meets its contract.
-- Assumes nothing.
use Rattle.std.proofs.Common.{ap, ◌∙◌}
use Rattle.dshot_reply_spec.specs.Answer.{Answer}
use Rattle.dshot_bank_spec.specs.State.{Core}
use Rattle.dshot_bank_spec.specs.Calls.{commanded}
use Rattle.dshot.specs.Answers.{run_of}
use Rattle.dshot_bank.specs.States.{state_of}
use Rattle.dshot_bank.specs.Answers.{special_error_number}
use Rattle.dshot_bank.proofs.CommandLaws.{special}
use Rattle.dshot_bank.proofs.DshotBank.command_special.Goals as goal

pub returns : goal.returns
returns c = λ b.
    let a = c.args in
    let s = state_of a.self b in
    c.commanded.ensures special_error_number b ∙ ap (λ (q : Answer Core). commanded s q) c.queued.ensures ∙ special s a.motor (run_of a.sequence)
