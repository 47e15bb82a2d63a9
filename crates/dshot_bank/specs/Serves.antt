-- What the code's `service` returns, in the terms of the definitions.
-- Assumes nothing.
use Rattle.std.specs.Prelude.{◌≡◌, ℕ, Bool, List, [], Result, Ok, Err}
use Rattle.dshot_reply_spec.specs.Refusals.{wrong_length}
use Rattle.dshot_bank_spec.specs.State.{Buffers}
use Rattle.dshot_bank_spec.specs.Order.{Order}
use Rattle.dshot_bank_spec.specs.Service.{ServiceEvent, frame_started_event, busy, lease_expired_event, faulted}
use Rattle.dshot_bank_spec.specs.Service as Spec
use Rattle.dshot_bank_spec.specs.Calls.{Answer, refused, serviced}
use Rattle.dshot_bank.specs.declared.service.DshotServiceEvent.{DshotServiceEvent}
use Rattle.dshot_bank.specs.declared.service.DshotServiceEvent.TheVariants.{FrameStarted, Busy, LeaseExpired, Faulted}
use Rattle.dshot_reply.specs.declared.refusals.WrongLength.{WrongLength}
use Rattle.dshot_bank.specs.declared.service.Served.{Served}
use Rattle.dshot_bank.specs.declared.send.Handled.{Handled}
use Rattle.dshot_bank.specs.States.{core_of, bank_of}
use Rattle.dshot_bank.specs.Orders.{held}
use Rattle.dshot_bank_spec.specs.OrderNumber.{duties_in}

abbrev pub service_event_of : DshotServiceEvent → ServiceEvent
service_event_of FrameStarted = frame_started_event
service_event_of Busy = busy
service_event_of LeaseExpired = lease_expired_event
service_event_of Faulted = faulted

abbrev pub service_error_number : WrongLength → ℕ
service_error_number e = wrong_length

-- an event with its orders and the marks before the call, or document 01's number of the refusal
abbrev pub service_answer : Result DshotServiceEvent WrongLength → List Order → List Bool → Answer
service_answer (Ok event) orders in_second = serviced (service_event_of event) orders in_second
service_answer (Err error) orders in_second = refused (service_error_number error)

-- The code and the definition have the same event, orders and core.
pub record Skips (r : Handled DshotServiceEvent) (s : Spec.Skipped) : Type 0 where
  pub event : service_event_of r.event ≡ s.event
  pub orders : r.orders ≡ held s.orders
  pub duties : duties_in [] ≡ duties_in s.orders
  pub core : core_of r.core ≡ s.core

-- The code and the definition have the same event, orders, first duties, bank and buffers.
pub record Serves (r : Served) (b : Buffers) (s : Spec.Served) : Type 0 where
  pub answer : (in_second : List Bool) → service_answer r.answer s.orders in_second ≡ serviced s.event s.orders in_second
  pub orders : r.orders ≡ held s.orders
  pub duties : r.first_duties ≡ duties_in s.orders
  pub bank : bank_of r.bank ≡ s.bank
  pub buffers : b ≡ s.buffers
