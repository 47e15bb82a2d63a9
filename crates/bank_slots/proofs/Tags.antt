-- The numbers of motors and events, as the code casts them.
-- Assumes nothing.
use Rattle.std.proofs.Common.{◌≡◌, refl}
use denote.Enum.Declared.{tag_of}
use Rattle.dshot_bank.specs.declared.DshotMotor.{DshotMotor}
use Rattle.dshot_bank.specs.declared.DshotMotor.TheVariants.{Motor1, Motor2, Motor3, Motor4}
use Rattle.dshot_bank.specs.contracts.DshotMotor as MotorType
use Rattle.dshot_bank.specs.declared.interrupt.DshotInterruptEvent.{DshotInterruptEvent}
use Rattle.dshot_bank.specs.declared.interrupt.DshotInterruptEvent.TheVariants as Interrupt
use Rattle.dshot_bank.specs.contracts.interrupt.DshotInterruptEvent as InterruptType
use Rattle.dshot_bank.specs.declared.service.DshotServiceEvent.{DshotServiceEvent}
use Rattle.dshot_bank.specs.declared.service.DshotServiceEvent.TheVariants as Service
use Rattle.dshot_bank.specs.contracts.service.DshotServiceEvent as ServiceType
use Rattle.dshot_bank.specs.States.{motor_of}
use Rattle.dshot_bank.specs.Interrupts.{interrupt_event_of}
use Rattle.dshot_bank.specs.Serves.{service_event_of}
use Rattle.bank_slots_spec.specs.Outs.{interrupt_event, service_event}

pub motor_tag : (m : DshotMotor) → tag_of MotorType.the_type m ≡ motor_of m
motor_tag Motor1 = refl
motor_tag Motor2 = refl
motor_tag Motor3 = refl
motor_tag Motor4 = refl

pub interrupt_tag : (e : DshotInterruptEvent) → tag_of InterruptType.the_type e ≡ interrupt_event (interrupt_event_of e)
interrupt_tag Interrupt.Completed = refl
interrupt_tag Interrupt.Faulted = refl
interrupt_tag Interrupt.Spurious = refl

pub service_tag : (e : DshotServiceEvent) → tag_of ServiceType.the_type e ≡ service_event (service_event_of e)
service_tag Service.FrameStarted = refl
service_tag Service.Busy = refl
service_tag Service.LeaseExpired = refl
service_tag Service.Faulted = refl
