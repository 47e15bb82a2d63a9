-- A command of a lane is a step: it is refused by the lane, or done.
-- Assumes nothing.
use Rattle.std.proofs.Common.{◌≡◌, ℕ, Bool, true, false, nat_lt, refl, if◌then◌else◌}
use Rattle.dshot_reply_spec.specs.Answer.{Answer, refused}
use Rattle.dshot_reply_spec.specs.Refusals.{no_such_motor}
use Rattle.dshot_spec.specs.Command.{CommandRun}
use Rattle.dshot_bank_spec.specs.State.{Core}
use Rattle.dshot_bank_spec.specs.Commands.{command_special, request_telemetry}
use Rattle.dshot_bank_spec.specs.Calls.{State, commanded, command_special_call, request_telemetry_call}
use Rattle.dshot_bank_spec.specs.Steps.{refuse_or, port_refusal, step}

of_lane : (there : Bool) (s : State) (a : Answer Core)
    → commanded s (if there then a else refused no_such_motor) ≡ refuse_or s (if there then 0 else no_such_motor) (commanded s a)
of_lane true s a = refl
of_lane false s a = refl

pub special : (s : State) (motor : ℕ) (run : CommandRun)
    → commanded s (if nat_lt motor 4 then command_special motor run s.bank.core else refused no_such_motor) ≡ step 4 s (command_special_call motor run)
unfolding step port_refusal
special s motor run = of_lane (nat_lt motor 4) s (command_special motor run s.bank.core)

pub request : (s : State) (motor : ℕ)
    → commanded s (if nat_lt motor 4 then request_telemetry motor s.bank.core else refused no_such_motor) ≡ step 4 s (request_telemetry_call motor)
unfolding step port_refusal
request s motor = of_lane (nat_lt motor 4) s (request_telemetry motor s.bank.core)
