-- The definitions that say what the code's state and answers stand for are injective. So the equation of a promise determines bank and answer.
-- Assumes nothing.
use Rattle.std.specs.Prelude.{Option, Some, None, Result, Ok, Err}
use Rattle.std.specs.Borrow.{Bor}
use Rattle.std.proofs.Common.{◌≡◌, ◌∙◌, sym, ℕ, zero, suc, Bool, eqb, List, [], ◌∷◌, map, length, get_or, drop, refl, ap, arith}
use mathlib.Core.Option as Math
use Rattle.dshot_reply_spec.proofs.Inverse.{injective}
use Rattle.dshot_reply_spec.specs.Answer.{pick}
use Rattle.dshot_reply_spec.specs.Answer as Reply
use Rattle.dshot_reply_spec.specs.Value.{Reading, erpm, temp, volt, amp, debug, state, edt}
use Rattle.dshot_reply.proofs.Injective.{reply_answer-injective}
use Rattle.dshot_reply.specs.Answers.{reply_answer}
use Rattle.dshot_reply.specs.declared.DshotReply.{DshotReply}
use Rattle.dshot_reply.specs.declared.DshotReplyError.{DshotReplyError}
use Rattle.dshot.proofs.Injective.{timing_of-injective, run_of-injective}
use Rattle.dshot_bank_spec.specs.State as Spec
use Rattle.dshot_bank_spec.specs.State.{lease_of}
use Rattle.dshot_bank_spec.specs.Service.{ServiceEvent, frame_started_event, busy, lease_expired_event, faulted}
use Rattle.dshot_bank_spec.specs.Interrupt.{InterruptEvent, completed, spurious}
use Rattle.dshot_bank_spec.specs.Interrupt as Spec·
use Rattle.dshot_bank_spec.specs.Order.{Order}
use Rattle.dshot_bank_spec.specs.Calls.{Answer}
use Rattle.dshot_bank.specs.declared.DshotMotor.{DshotMotor}
use Rattle.dshot_bank.specs.declared.DshotMotor.TheVariants.{Motor1, Motor2, Motor3, Motor4}
use Rattle.dshot_bank.specs.declared.MotorRun.{MotorRun}
use Rattle.dshot_bank.specs.declared.DshotStats.{DshotStats}
use Rattle.dshot_bank.specs.declared.Core.{Core}
use Rattle.dshot_bank.specs.declared.StoredReply.{StoredReply}
use Rattle.dshot_bank.specs.declared.StoredReply.TheVariants as Stored
use Rattle.dshot_bank.specs.declared.LaneReply.{LaneReply}
use Rattle.dshot_bank.specs.declared.DshotBank.{DshotBank}
use Rattle.dshot_bank.specs.declared.commands.DshotInitError.{DshotInitError}
use Rattle.dshot_bank.specs.declared.commands.DshotInitError.TheVariants.{RepliesUnsupported}
use Rattle.dshot_bank.specs.declared.commands.DshotCommandError.{DshotCommandError}
use Rattle.dshot_bank.specs.declared.commands.DshotCommandError.TheVariants as CommandError
use Rattle.dshot_bank.specs.declared.commands.DshotSpecialCommandError.{DshotSpecialCommandError}
use Rattle.dshot_bank.specs.declared.commands.DshotSpecialCommandError.TheVariants as SpecialError
use Rattle.dshot_bank.specs.declared.commands.DshotTelemetryRequestError.{DshotTelemetryRequestError}
use Rattle.dshot_bank.specs.declared.commands.DshotTelemetryRequestError.TheVariants as RequestError
use Rattle.dshot_bank.specs.declared.orders.Orders.{Orders}
use Rattle.dshot_bank.specs.declared.service.DshotServiceEvent.{DshotServiceEvent}
use Rattle.dshot_bank.specs.declared.service.DshotServiceEvent.TheVariants as ServiceEvents
use Rattle.dshot_reply.specs.declared.refusals.WrongLength.{WrongLength}
use Rattle.dshot_bank.specs.declared.interrupt.DshotInterruptEvent.{DshotInterruptEvent}
use Rattle.dshot_bank.specs.declared.interrupt.DshotInterruptEvent.TheVariants as InterruptEvents
use Rattle.dshot_bank.specs.declared.interrupt.InterruptError.{InterruptError}
use Rattle.dshot_bank.specs.declared.interrupt.InterruptError.TheVariants as InterruptErrors
use Rattle.dshot_bank.specs.declared.looks.ViewError.{ViewError}
use Rattle.dshot_bank.specs.declared.looks.ViewError.TheVariants as ViewErrors
use Rattle.dshot_bank.specs.declared.replies.DshotReplyStats.{DshotReplyStats}
use Rattle.dshot_bank.specs.Answers.{done_answer, init_error_number, enabled_answer, command_error_number, throttled_answer, special_error_number, special_answer, request_error_number, requested_answer, taken_answer, reply_stats_of}
use Rattle.dshot_bank.specs.Views.{view_error_number, view_answer}
use Rattle.dshot_bank.specs.Orders.{Just}
use Rattle.dshot_bank.specs.Serves.{service_event_of, service_answer}
use Rattle.dshot_bank.specs.Interrupts.{interrupt_event_of, interrupt_answer}
use Rattle.dshot_bank.specs.States.{motor_of, option_of, choice_of, motor_run_of, command_sequence_of, stats_of, core_of, stored_answer, lane_reply_of, bank_of}

-- ---- motors, leases and runs

motor_back : ℕ → DshotMotor
motor_back n = pick (eqb n 0) Motor1 (pick (eqb n 1) Motor2 (pick (eqb n 2) Motor3 Motor4))

motor-back : (m : DshotMotor) → motor_back (motor_of m) ≡ m
unfolding motor_back
motor-back Motor1 = refl
motor-back Motor2 = refl
motor-back Motor3 = refl
motor-back Motor4 = refl

pub motor_of-injective : (m n : DshotMotor) → motor_of m ≡ motor_of n → m ≡ n
motor_of-injective = injective motor_of motor_back motor-back

-- an option, by its value
option_of-injective : {T A : Type 0} (f : T → A) → ((x y : T) → f x ≡ f y → x ≡ y) → (c d : Option T) → option_of f c ≡ option_of f d → c ≡ d
option_of-injective f h None None e = refl
option_of-injective f h None (Some y) e = cc
option_of-injective f h (Some x) None e = cc
option_of-injective f h (Some x) (Some y) e = ap Some (h x y (cc))

pub choice_of-injective : (c d : Option DshotMotor) → choice_of c ≡ choice_of d → c ≡ d
choice_of-injective = option_of-injective motor_of motor_of-injective

lease_back : Math.Option ℕ → ℕ
lease_back Math.none = 0
lease_back (Math.some n) = suc n

lease-back : (l : ℕ) → lease_back (lease_of l) ≡ l
unfolding lease_back
lease-back zero = refl
lease-back (suc n) = grind arith

pub lease_of-injective : (l m : ℕ) → lease_of l ≡ lease_of m → l ≡ m
lease_of-injective = injective lease_of lease_back lease-back

motor_run_of-injective : (r s : MotorRun) → motor_run_of r ≡ motor_run_of s → r ≡ s
motor_run_of-injective r s e =
    let motor = motor_of-injective r.motor s.motor (ap (λ (q : Spec.MotorRun). q.motor) e) in
    let sequence = run_of-injective r.sequence s.sequence (ap (λ (q : Spec.MotorRun). q.sequence) e) in
    λ j. record { motor = motor j; sequence = sequence j }

pub command_sequence_of-injective : (r s : Option MotorRun) → command_sequence_of r ≡ command_sequence_of s → r ≡ s
command_sequence_of-injective = option_of-injective motor_run_of motor_run_of-injective

-- ---- the bank

pub stats_of-injective : (a b : DshotStats) → stats_of a ≡ stats_of b → a ≡ b
stats_of-injective a b e = λ j. record {
  frames_started = (e j).frames_started;
  frames_completed = (e j).frames_completed;
  lane_completions = (e j).lane_completions;
  busy_skips = (e j).busy_skips;
  lease_expiries = (e j).lease_expiries;
  frame_timeouts = (e j).frame_timeouts;
  dma_faults = (e j).dma_faults;
  spurious_interrupts = (e j).spurious_interrupts;
}

pub core_of-injective : (a b : Core) → core_of a ≡ core_of b → a ≡ b
core_of-injective a b e =
    let stats = stats_of-injective a.stats b.stats (ap (λ (q : Spec.Core). q.stats) e) in
    let timing = timing_of-injective a.timing b.timing (ap (λ (q : Spec.Core). q.timing) e) in
    let lease = option_of-injective (λ n. n) (λ x y h. h) a.demand.lease_duration_ms b.demand.lease_duration_ms (ap (λ (q : Spec.Core). q.demand.lease_duration_ms) e) in
    let request = choice_of-injective a.requests.telemetry_request b.requests.telemetry_request (ap (λ (q : Spec.Core). q.telemetry.request) e) in
    let sent = choice_of-injective a.requests.telemetry_request_sent b.requests.telemetry_request_sent (ap (λ (q : Spec.Core). q.telemetry.request_sent) e) in
    let run = command_sequence_of-injective a.requests.command_sequence b.requests.command_sequence (ap (λ (q : Spec.Core). q.command_sequence) e) in
    λ j. record {
      timing = timing j;
      demand = record { requested_values = (e j).demand.requested_values; lease_started_ms = (e j).demand.lease_started_ms; lease_duration_ms = lease j };
      requests = record { telemetry_request = request j; telemetry_request_sent = sent j; command_sequence = run j };
      frame = record {
        in_second = (e j).frame.in_second;
        completion_mask = (e j).frame.completion_mask;
        frame_started_ms = (e j).frame.started_ms;
        busy = (e j).frame.busy;
        faulted = (e j).frame.faulted;
        bidirectional = (e j).frame.bidirectional;
        receiving = (e j).frame.receiving;
        replies_waiting = (e j).frame.replies_waiting;
        replies_held = (e j).frame.replies_held;
      };
      stats = stats j;
    }

stored_of_answer : Reply.Answer Reading → StoredReply
stored_of_answer (Reply.given (erpm n)) = Stored.Erpm n
stored_of_answer (Reply.given (temp n)) = Stored.Temperature n
stored_of_answer (Reply.given (volt n)) = Stored.Voltage n
stored_of_answer (Reply.given (amp n)) = Stored.Current n
stored_of_answer (Reply.given (debug channel n)) = Stored.Debug channel n
stored_of_answer (Reply.given (state n)) = Stored.StateEvent n
stored_of_answer (Reply.given edt) = Stored.ExtendedTelemetryEnabled
stored_of_answer (Reply.refused n) = pick (eqb n 7) Stored.NoReply (pick (eqb n 8) Stored.Overlong (pick (eqb n 9) Stored.InvalidSymbol (pick (eqb n 10) Stored.Checksum Stored.ZeroPeriod)))

stored_back : (r : StoredReply) → stored_of_answer (stored_answer r) ≡ r
unfolding stored_of_answer
stored_back (Stored.Erpm n) = refl
stored_back (Stored.Temperature n) = refl
stored_back (Stored.Voltage n) = refl
stored_back (Stored.Current n) = refl
stored_back (Stored.Debug channel n) = refl
stored_back (Stored.StateEvent n) = refl
stored_back Stored.ExtendedTelemetryEnabled = refl
stored_back Stored.NoReply = refl
stored_back Stored.Overlong = refl
stored_back Stored.InvalidSymbol = refl
stored_back Stored.Checksum = refl
stored_back Stored.ZeroPeriod = refl

pub stored_answer-injective : (r s : StoredReply) → stored_answer r ≡ stored_answer s → r ≡ s
stored_answer-injective = injective stored_answer stored_of_answer stored_back

pub lane_reply_of-injective : (a b : LaneReply) → lane_reply_of a ≡ lane_reply_of b → a ≡ b
lane_reply_of-injective a b e =
    let reply = stored_answer-injective a.reply b.reply (ap (λ (q : Spec.LaneReply). q.reply) e) in
    λ j. record { reply = reply j; valid = (e j).valid; invalid = (e j).invalid; consecutive_invalid = (e j).consecutive_invalid }

-- a list by its entries
map_injective : {A B : Type 0} (f : A → B) → ((a b : A) → f a ≡ f b → a ≡ b) → (l m : List A) → map f l ≡ map f m → l ≡ m
map_injective f h [] [] e = refl
map_injective {A} {B} f h [] (y ∷ m) e = absurd (omega (arith, ap (λ (q : List B). length q) e))
map_injective {A} {B} f h (x ∷ l) [] e = absurd (omega (arith, ap (λ (q : List B). length q) e))
map_injective {A} {B} f h (x ∷ l) (y ∷ m) e =
    let first = h x y (ap (λ (q : List B). get_or q 0 (f x)) e) in
    let rest = map_injective f h l m (ap (λ (q : List B). drop 1 q) e) in
    λ j. first j ∷ rest j

pub bank_of-injective : (a b : DshotBank) → bank_of a ≡ bank_of b → a ≡ b
bank_of-injective a b e =
    let core = core_of-injective a.core b.core (ap (λ (q : Spec.Bank). q.core) e) in
    let replies = map_injective lane_reply_of lane_reply_of-injective a.replies b.replies (ap (λ (q : Spec.Bank). q.replies) e) in
    λ j. record { core = core j; replies = replies j }

-- ---- answers

-- what a command answers, by the number of its error
done_answer-injective : {E : Type 0} (number : E → ℕ) → ((e f : E) → number e ≡ number f → e ≡ f) → (a b : Result Unit E) → done_answer number a ≡ done_answer number b → a ≡ b
done_answer-injective number h (Ok u) (Ok v) e = refl
done_answer-injective number h (Ok u) (Err y) e = cc
done_answer-injective number h (Err x) (Ok v) e = cc
done_answer-injective number h (Err x) (Err y) e = ap Err (h x y (cc))

init_error-injective : (e f : DshotInitError) → init_error_number e ≡ init_error_number f → e ≡ f
init_error-injective RepliesUnsupported RepliesUnsupported e = refl

pub enabled_answer-injective : (a b : Result Unit DshotInitError) → enabled_answer a ≡ enabled_answer b → a ≡ b
enabled_answer-injective = done_answer-injective init_error_number init_error-injective

command_error_back : ℕ → DshotCommandError
command_error_back n = pick (eqb n 6) CommandError.ThrottleOutOfRange CommandError.Faulted

command-error-back : (e : DshotCommandError) → command_error_back (command_error_number e) ≡ e
unfolding command_error_back
command-error-back CommandError.ThrottleOutOfRange = refl
command-error-back CommandError.Faulted = refl

pub throttled_answer-injective : (a b : Result Unit DshotCommandError) → throttled_answer a ≡ throttled_answer b → a ≡ b
throttled_answer-injective = done_answer-injective command_error_number (injective command_error_number command_error_back command-error-back)

special_error_back : ℕ → DshotSpecialCommandError
special_error_back n = pick (eqb n 12) SpecialError.NoSuchMotor (pick (eqb n 18) SpecialError.Faulted (pick (eqb n 19) SpecialError.MotorsRunning SpecialError.CommandPending))

special-error-back : (e : DshotSpecialCommandError) → special_error_back (special_error_number e) ≡ e
unfolding special_error_back
special-error-back SpecialError.NoSuchMotor = refl
special-error-back SpecialError.Faulted = refl
special-error-back SpecialError.MotorsRunning = refl
special-error-back SpecialError.CommandPending = refl

pub special_answer-injective : (a b : Result Unit DshotSpecialCommandError) → special_answer a ≡ special_answer b → a ≡ b
special_answer-injective = done_answer-injective special_error_number (injective special_error_number special_error_back special-error-back)

request_error_back : ℕ → DshotTelemetryRequestError
request_error_back n = pick (eqb n 12) RequestError.NoSuchMotor (pick (eqb n 18) RequestError.Faulted RequestError.Busy)

request-error-back : (e : DshotTelemetryRequestError) → request_error_back (request_error_number e) ≡ e
unfolding request_error_back
request-error-back RequestError.NoSuchMotor = refl
request-error-back RequestError.Faulted = refl
request-error-back RequestError.Busy = refl

pub requested_answer-injective : (a b : Result Unit DshotTelemetryRequestError) → requested_answer a ≡ requested_answer b → a ≡ b
requested_answer-injective = done_answer-injective request_error_number (injective request_error_number request_error_back request-error-back)

service_event_back : ServiceEvent → DshotServiceEvent
service_event_back frame_started_event = ServiceEvents.FrameStarted
service_event_back busy = ServiceEvents.Busy
service_event_back lease_expired_event = ServiceEvents.LeaseExpired
service_event_back faulted = ServiceEvents.Faulted

service-event-back : (e : DshotServiceEvent) → service_event_back (service_event_of e) ≡ e
unfolding service_event_back
service-event-back ServiceEvents.FrameStarted = refl
service-event-back ServiceEvents.Busy = refl
service-event-back ServiceEvents.LeaseExpired = refl
service-event-back ServiceEvents.Faulted = refl

pub service_answer-injective : (a b : Result DshotServiceEvent WrongLength) (l m : List Order) (u v : List Bool) → service_answer a l u ≡ service_answer b m v → a ≡ b
service_answer-injective (Ok e) (Ok f) l m u v h = ap Ok (injective service_event_of service_event_back service-event-back e f (cc))
service_answer-injective (Ok e) (Err y) l m u v h = cc
service_answer-injective (Err x) (Ok f) l m u v h = cc
service_answer-injective (Err x) (Err y) l m u v h = refl

interrupt_event_back : InterruptEvent → DshotInterruptEvent
interrupt_event_back completed = InterruptEvents.Completed
interrupt_event_back Spec·.faulted = InterruptEvents.Faulted
interrupt_event_back spurious = InterruptEvents.Spurious

interrupt-event-back : (e : DshotInterruptEvent) → interrupt_event_back (interrupt_event_of e) ≡ e
unfolding interrupt_event_back
interrupt-event-back InterruptEvents.Completed = refl
interrupt-event-back InterruptEvents.Faulted = refl
interrupt-event-back InterruptEvents.Spurious = refl

pub interrupt_answer-injective : (a b : Result DshotInterruptEvent InterruptError) (l m : List Order) → interrupt_answer a l ≡ interrupt_answer b m → a ≡ b
interrupt_answer-injective (Ok e) (Ok f) l m h = ap Ok (injective interrupt_event_of interrupt_event_back interrupt-event-back e f (cc))
interrupt_answer-injective (Ok e) (Err y) l m h = cc
interrupt_answer-injective (Err x) (Ok f) l m h = cc
interrupt_answer-injective (Err InterruptErrors.NoSuchMotor) (Err InterruptErrors.NoSuchMotor) l m h = refl

-- ---- what is looked at, and the replies

-- what a view shows, wherever it lies
abbrev pub seen : Result (Bor (List ℕ)) ViewError → Result (List ℕ) ViewError
seen (Ok part) = Ok part.now
seen (Err error) = Err error

view_error_back : ℕ → ViewError
view_error_back n = pick (eqb n 12) ViewErrors.NoSuchMotor ViewErrors.WrongLength

view-error-back : (e : ViewError) → view_error_back (view_error_number e) ≡ e
unfolding view_error_back
view-error-back ViewErrors.WrongLength = refl
view-error-back ViewErrors.NoSuchMotor = refl

pub view_answer-injective : (a b : Result (Bor (List ℕ)) ViewError) → view_answer a ≡ view_answer b → seen a ≡ seen b
view_answer-injective (Ok p) (Ok q) h = ap Ok (cc)
view_answer-injective (Ok p) (Err y) h = cc
view_answer-injective (Err x) (Ok q) h = cc
view_answer-injective (Err x) (Err y) h = ap Err (injective view_error_number view_error_back view-error-back x y (cc))

pub taken_answer-injective : (a b : Option (List (Result DshotReply DshotReplyError))) → taken_answer a ≡ taken_answer b → a ≡ b
taken_answer-injective a b h = option_of-injective (map reply_answer) (map_injective reply_answer reply_answer-injective) a b (cc)

pub taken-or-not : (l : List (Result DshotReply DshotReplyError)) → taken_answer (Some l) ≡ taken_answer None → ⊥
taken-or-not l h = cc

pub reply_stats_of-injective : (a b : DshotReplyStats) → reply_stats_of a ≡ reply_stats_of b → a ≡ b
reply_stats_of-injective a b h = λ j. record { valid = (h j).valid; invalid = (h j).invalid; consecutive_invalid = (h j).consecutive_invalid }

-- an answer determines the number that holds just its orders, and the first duties beside it
pub orders-determine : (o p : Orders) (d e : List ℕ) (a : Answer) → Just o d a → Just p e a → (o ≡ p) × (d ≡ e)
orders-determine o p d e a h k = (h.number ∙ sym k.number, h.duties ∙ sym k.duties)
