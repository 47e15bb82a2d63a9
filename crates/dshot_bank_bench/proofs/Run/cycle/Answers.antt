-- `dshot_bank_bench::Run::cycle` meets its contract: throttles, a service, and interrupts.
-- Assumes nothing.
use Rattle.std.proofs.Common.{ap, ◌∙◌}
use Rattle.dshot_bank_spec.specs.State.{Buffers}
use Rattle.dshot_bank_spec.specs.Calls.{command_throttles_call, service_call}
use Rattle.dshot_bank_bench.specs.Cycles as Spec
use Rattle.dshot_bank_bench.specs.Cycles.{after, past}
use Rattle.dshot_bank_bench.specs.Runs.{run_of}
use Rattle.dshot_bank_bench.proofs.Run.cycle.Goals as goal

pub returns : goal.returns
returns c =
    let a = c.args in
    let n = a.now_ms in
    let samples = a.captures.now in
    let start : Buffers = record { first = a.first.now; second = a.second.now } in
    let end : Buffers = record { first = c.serve.new.first; second = c.serve.new.second } in
    let thrown = past (run_of a.self start) (command_throttles_call a.throttles n 10) in
    let answers = c.answers.result in
    let told = c.answers.ensures in
    c.interrupts.ensures end
    ∙ ap (λ (r : Spec.Run). Spec.interrupts a.setup.interrupts r)
    (c.serve.ensures
    ∙ ap (λ (r : Spec.Run). after r (service_call n answers.taken answers.present answers.masks samples)) (c.throttle.ensures start)
    ∙ (λ j. after thrown (service_call n (told.0 j) (told.1 j) (told.2 j) samples)))
