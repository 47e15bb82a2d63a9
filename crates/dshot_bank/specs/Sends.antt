-- What the code that sends a frame set returns, in the terms of the definitions. Only private functions cite this.
-- Assumes nothing.
use Rattle.std.specs.Prelude.{◌≡◌, ℕ, List, replicate, unwrap_or}
use Rattle.std.specs.Option.{is_some}
use Rattle.std.specs.Prelude as Std
use Rattle.std.proofs.Math.Option.{Option}
use Rattle.dshot.specs.Answers.{lane_of}
use Rattle.dshot_bank_spec.specs.Commands.{MotorCommand}
use Rattle.dshot_bank_spec.specs.Commands as Spec
use Rattle.dshot_bank_spec.specs.FrameSet as Sets
use Rattle.dshot_bank_spec.specs.Send as Send
use Rattle.dshot_bank.specs.declared.DshotMotor.{DshotMotor}
use Rattle.dshot_bank.specs.declared.send.NextFrame.{NextFrame}
use Rattle.dshot_bank.specs.declared.send.FrameSet.{FrameSet}
use Rattle.dshot_bank.specs.declared.send.Sent.{Sent}
use Rattle.dshot_bank.specs.States.{motor_of, option_of, choice_of, command_sequence_of, core_of}
use Rattle.dshot_bank.specs.Orders.{held}
use Rattle.dshot_bank_spec.specs.OrderNumber.{duties_in}

-- the Rust's `Option<(DshotMotor, u16)>`
abbrev pub motor_command_of : Std.Option (DshotMotor × ℕ) → Option MotorCommand
motor_command_of = option_of (λ p. record { motor = motor_of p.0; command = p.1 })

abbrev pub next_frame_of : NextFrame → Spec.NextFrame
next_frame_of n = record { command = motor_command_of n.command; left = command_sequence_of n.left }

abbrev pub frame_set_of : FrameSet → Sets.FrameSet
frame_set_of f = record { values = f.values; telemetry_lane = lane_of f.telemetry_lane; telemetry_request = choice_of f.telemetry_request }

-- The code and the definition have the same start, orders, first duties (zeros without a start) and core.
pub record Sends (r : Sent) (s : Send.Sent) : Type 0 where
  pub started : is_some r.first_duties ≡ s.started
  pub orders : r.orders ≡ held s.orders
  pub duties : unwrap_or r.first_duties (replicate 4 0) ≡ duties_in s.orders
  pub core : core_of r.core ≡ s.core
