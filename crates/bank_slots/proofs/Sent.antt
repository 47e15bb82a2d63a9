-- The answer of a service that sends: its exchanges, and behind them the orders of a latched fault, or of a frame set that starts.
-- Assumes nothing.
use Rattle.std.proofs.Common.{◌≡◌, ℕ, zero, suc, ◌+◌, ◌-◌, ◌<◌, Bool, List, [], ◌∷◌, ◌++◌, length, replicate, get_or, set, true, false, ◌∙◌, Option, Some, None, is_some, not, refl, sym, ap, arith}
use borrow.Author.Tests.{not-true, not-false}
use denote.Enum.Declared.{tag_of}
use Rattle.dshot_reply_spec.specs.Answer.{pick}
use Rattle.dshot_spec.specs.Packet.{Kind, inverted, plain}
use Rattle.dshot_spec.specs.Tabulate.{tabulate}
use Rattle.dshot_bank_spec.specs.State.{Core}
use Rattle.dshot_bank_spec.specs.FrameSet.{frame_set, kind_sent}
use Rattle.dshot_bank_spec.specs.Service.{sent_event}
use Rattle.dshot_bank_spec.specs.Order.{start_orders, refused_orders}
use Rattle.bank_slots_spec.specs.Memory.{at}
use Rattle.bank_slots_spec.specs.Places.{BIDIRECTIONAL}
use Rattle.bank_slots_spec.specs.Load.{flag, load}
use Rattle.bank_slots_spec.specs.Outs.{code_given, codes, service_event}
use Rattle.dshot_bank.specs.declared.service.DshotServiceEvent.{DshotServiceEvent}
use Rattle.dshot_bank.specs.contracts.service.DshotServiceEvent.{the_type}
use Rattle.dshot_bank.specs.Serves.{service_event_of}
use Rattle.bank_slots.proofs.Tags.{service_tag}
use Rattle.bank_slots_spec.specs.Parts.{carried_by}
use Rattle.dshot_bank.specs.declared.DshotMotor.{DshotMotor}
use Rattle.dshot_bank.specs.Sends.{motor_command_of}
use Rattle.bank_slots.specs.Frames.{exchange_codes, refused_slots}

pub refused-told : (marks : List Bool) (lane : ℕ) → lane < 4 → refused_slots lane (exchange_codes marks) ≡ 3 ∷ (lane + 6) ∷ (codes 9 (code_given marks) (refused_orders 4 lane) ++ replicate 4 0)
unfolding tabulate
refused-told marks zero h = refl
refused-told marks (suc zero) h = refl
refused-told marks (suc (suc zero)) h = refl
refused-told marks (suc (suc (suc zero))) h = refl
refused-told marks (suc (suc (suc (suc k)))) h = absurd (omega arith)

-- the slots if the frame set starts, without its first duties
abbrev pub started_slots : ℕ → List ℕ → List ℕ
started_slots event exchanges =
    event ∷ (length exchanges + 5) ∷ (exchanges ++ ((16 ∷ 17 ∷ 18 ∷ 19 ∷ 24 ∷ []) ++ replicate (15 - (2 + length exchanges + 5)) 0))

-- with them behind it
pub started-told : (marks : List Bool) (event : ℕ) (duties : List ℕ) → length duties ≡ 4
    → set (set (set (set (started_slots event (exchange_codes marks)) 11 (get_or duties 0 0)) 12 (get_or duties 1 0)) 13 (get_or duties 2 0)) 14 (get_or duties 3 0)
    ≡ event ∷ 9 ∷ (codes 9 (code_given marks) (start_orders 4 []) ++ duties)
unfolding tabulate
started-told marks event [] h = absurd (omega arith)
started-told marks event (a ∷ []) h = absurd (omega arith)
started-told marks event (a ∷ b ∷ []) h = absurd (omega arith)
started-told marks event (a ∷ b ∷ c ∷ []) h = absurd (omega arith)
started-told marks event (a ∷ b ∷ c ∷ d ∷ []) h = refl
started-told marks event (a ∷ b ∷ c ∷ d ∷ e ∷ l) h = absurd (omega arith)

-- A frame set without a special command carries the pending request.
pub request-carried : (ordinary : Bool) (next : Option (DshotMotor × ℕ)) (c : Core) → is_some next ≡ not ordinary → carried_by ordinary c ≡ (frame_set 4 c (motor_command_of next)).telemetry_request
request-carried ordinary (Some (m, v)) c e = ap (λ (b : Bool). carried_by b c) (not-true ordinary (sym e))
request-carried ordinary None c e = ap (λ (b : Bool). carried_by b c) (not-false ordinary (sym e))

-- The kind of checksum, by the flag.
pub kind-is : {kind : Kind} {bidirectional : Bool} (xs : List ℕ) → bidirectional ≡ flag (at xs BIDIRECTIONAL) → kind ≡ pick bidirectional inverted plain → kind ≡ kind_sent (load xs).core
unfolding load
kind-is xs f e = e ∙ ap (λ (b : Bool). pick b inverted plain) f

-- The event of a frame set that is sent.
pub event-is : (event : DshotServiceEvent) (expired : Bool) → service_event_of event ≡ sent_event true expired → tag_of the_type event ≡ pick expired 2 0
event-is event true e = service_tag event ∙ ap service_event e
event-is event false e = service_tag event ∙ ap service_event e
