-- What the code's `on_dma_interrupt` returns, in the terms of the definitions.
-- Assumes nothing.
use Rattle.std.specs.Prelude.{◌≡◌, ℕ, List, Result, Ok, Err}
use Rattle.dshot_reply_spec.specs.Refusals.{no_such_motor}
use Rattle.dshot_bank_spec.specs.Order.{Order}
use Rattle.dshot_bank_spec.specs.Interrupt.{InterruptEvent, completed, faulted, spurious}
use Rattle.dshot_bank_spec.specs.Interrupt as Spec
use Rattle.dshot_bank_spec.specs.Calls.{Answer, refused, interrupted}
use Rattle.dshot_bank.specs.declared.interrupt.DshotInterruptEvent.{DshotInterruptEvent}
use Rattle.dshot_bank.specs.declared.interrupt.DshotInterruptEvent.TheVariants.{Completed, Faulted, Spurious}
use Rattle.dshot_bank.specs.declared.interrupt.InterruptError.{InterruptError}
use Rattle.dshot_bank.specs.declared.interrupt.InterruptError.TheVariants.{NoSuchMotor}
use Rattle.dshot_bank.specs.declared.send.Handled.{Handled}
use Rattle.dshot_bank.specs.States.{core_of}
use Rattle.dshot_bank.specs.Orders.{held}

abbrev pub interrupt_event_of : DshotInterruptEvent → InterruptEvent
interrupt_event_of Completed = completed
interrupt_event_of Faulted = faulted
interrupt_event_of Spurious = spurious

abbrev pub interrupt_error_number : InterruptError → ℕ
interrupt_error_number NoSuchMotor = no_such_motor

-- an event with its orders, or document 01's number of the refusal
abbrev pub interrupt_answer : Result DshotInterruptEvent InterruptError → List Order → Answer
interrupt_answer (Ok event) orders = interrupted (interrupt_event_of event) orders
interrupt_answer (Err error) orders = refused (interrupt_error_number error)

-- The code and the definition have the same event, orders and core.
pub record Interrupts (r : Handled DshotInterruptEvent) (s : Spec.Interrupted) : Type 0 where
  pub event : interrupt_event_of r.event ≡ s.event
  pub orders : r.orders ≡ held s.orders
  pub core : core_of r.core ≡ s.core
