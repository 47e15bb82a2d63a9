-- The definitions that give each enum document 01's numbers and values are injective. So the equation of a promise determines the answer.
-- Assumes nothing.
use mathlib.Core.Path.{◌≡◌, refl, ap}
use mathlib.Core.Bool.{false}
use Prim.Native.Nat.{ℕ}
use lib.Dec.{eqb}
use Rattle.dshot_reply_spec.proofs.Inverse.{injective}
use Rattle.dshot_reply_spec.specs.Answer.{Answer, given, refused, pick}
use Rattle.dshot_reply_spec.specs.Value.{Reading, erpm, temp, volt, amp, debug, state, edt}
use Rattle.dshot_reply_spec.specs.ValuePeriod as Told
use Rattle.std.specs.Prelude.{Result, Ok, Err}
use Rattle.dshot_reply.specs.Answers.{answer, error_number, number_answer, period_told, reading, reply_answer, value_period_answer, period_answer, simulate_error_number, simulated_number, status}
use Rattle.dshot_reply.specs.declared.DshotReplyError.{DshotReplyError}
use Rattle.dshot_reply.specs.declared.DshotReplyError.TheVariants.{NoReply, Overlong, InvalidSymbol, Checksum, ZeroPeriod}
use Rattle.dshot_reply.specs.declared.DshotReply.{DshotReply}
use Rattle.dshot_reply.specs.declared.DshotReply.TheVariants.{Erpm, Temperature, Voltage, Current, Debug, StateEvent, ExtendedTelemetryEnabled}
use Rattle.dshot_reply.specs.declared.period.ValuePeriod.{ValuePeriod}
use Rattle.dshot_reply.specs.declared.simulate.SimulateError.{SimulateError}
use Rattle.dshot_reply.specs.declared.simulate.SimulateError.TheVariants.{PeriodOutOfRange, NoMask, WrongLength}
use Rattle.dshot_reply.specs.Refusals.{refusal_number, status_number}
use Rattle.dshot_reply.specs.declared.refusals.Refusal.{Refusal}
use Rattle.dshot_reply.specs.declared.refusals.Refusal.TheVariants as Refusals

-- ---- for any meaning of the value and any numbers of the errors that are taken back

module _ {T E A : Type 0} (meaning : T → A) (value_of : A → T) (number : E → ℕ) (error_of : ℕ → E)
    (value-back : (t : T) → value_of (meaning t) ≡ t) (error-back : (e : E) → error_of (number e) ≡ e) where
  result_of : Answer A → Result T E
  result_of (given a) = Ok (value_of a)
  result_of (refused n) = Err (error_of n)

  answer-back : (r : Result T E) → result_of (answer meaning number r) ≡ r
  unfolding result_of
  answer-back (Ok t) = ap (λ (x : T). Ok x) (value-back t)
  answer-back (Err e) = ap (λ (x : E). Err x) (error-back e)

  pub answer-injective : (r s : Result T E) → answer meaning number r ≡ answer meaning number s → r ≡ s
  answer-injective = injective (answer meaning number) result_of answer-back

-- no error has the number 0
module _ {E : Type 0} (number : E → ℕ) (error_of : ℕ → E)
    (positive : (e : E) → eqb (number e) 0 ≡ false) (error-back : (e : E) → error_of (number e) ≡ e) where
  done_or : ℕ → Result Unit E
  done_or n = pick (eqb n 0) (Ok tt) (Err (error_of n))

  status-back : (r : Result Unit E) → done_or (status number r) ≡ r
  unfolding done_or
  status-back (Ok tt) = refl
  status-back (Err e) = rw (positive e) (ap (λ (x : E). Err x) (error-back e))

  pub status-injective : (r s : Result Unit E) → status number r ≡ status number s → r ≡ s
  status-injective = injective (status number) done_or status-back

-- ---- the errors and answers of this crate

error_of : ℕ → DshotReplyError
error_of n = pick (eqb n 7) NoReply (pick (eqb n 8) Overlong (pick (eqb n 9) InvalidSymbol (pick (eqb n 10) Checksum ZeroPeriod)))

error-back : (e : DshotReplyError) → error_of (error_number e) ≡ e
unfolding error_of
error-back NoReply = refl
error-back Overlong = refl
error-back InvalidSymbol = refl
error-back Checksum = refl
error-back ZeroPeriod = refl

pub error_number-injective : (e f : DshotReplyError) → error_number e ≡ error_number f → e ≡ f
error_number-injective = injective error_number error_of error-back

pub number_answer-injective : (t u : Result ℕ DshotReplyError) → number_answer t ≡ number_answer u → t ≡ u
number_answer-injective = answer-injective (λ n. n) (λ n. n) error_number error_of (λ n. refl) error-back

reply_of_reading : Reading → DshotReply
reply_of_reading (erpm n) = Erpm n
reply_of_reading (temp n) = Temperature n
reply_of_reading (volt n) = Voltage n
reply_of_reading (amp n) = Current n
reply_of_reading (debug channel n) = Debug channel n
reply_of_reading (state n) = StateEvent n
reply_of_reading edt = ExtendedTelemetryEnabled

reading-back : (r : DshotReply) → reply_of_reading (reading r) ≡ r
unfolding reply_of_reading
reading-back (Erpm n) = refl
reading-back (Temperature n) = refl
reading-back (Voltage n) = refl
reading-back (Current n) = refl
reading-back (Debug channel n) = refl
reading-back (StateEvent n) = refl
reading-back ExtendedTelemetryEnabled = refl

pub reply_answer-injective : (r s : Result DshotReply DshotReplyError) → reply_answer r ≡ reply_answer s → r ≡ s
reply_answer-injective = answer-injective reading reply_of_reading error_number error_of reading-back error-back

period_of_told : Told.Period → ValuePeriod
period_of_told q = record { period_us = q.microseconds; step_us = q.step }

told-back : (p : ValuePeriod) → period_of_told (period_told p) ≡ p
unfolding period_of_told
told-back p = refl

pub value_period_answer-injective : (p q : Result ValuePeriod DshotReplyError) → value_period_answer p ≡ value_period_answer q → p ≡ q
value_period_answer-injective = answer-injective period_told period_of_told error_number error_of told-back error-back

simulate_error_of : ℕ → SimulateError
simulate_error_of n = pick (eqb n 12) NoMask (pick (eqb n 13) WrongLength PeriodOutOfRange)

simulate-error-back : (e : SimulateError) → simulate_error_of (simulate_error_number e) ≡ e
unfolding simulate_error_of
simulate-error-back PeriodOutOfRange = refl
simulate-error-back NoMask = refl
simulate-error-back WrongLength = refl

simulate-error-positive : (e : SimulateError) → eqb (simulate_error_number e) 0 ≡ false
simulate-error-positive PeriodOutOfRange = refl
simulate-error-positive NoMask = refl
simulate-error-positive WrongLength = refl

pub period_answer-injective : (p q : Result ℕ SimulateError) → period_answer p ≡ period_answer q → p ≡ q
period_answer-injective = answer-injective (λ n. n) (λ n. n) simulate_error_number simulate_error_of (λ n. refl) simulate-error-back

pub simulated_number-injective : (s t : Result Unit SimulateError) → simulated_number s ≡ simulated_number t → s ≡ t
simulated_number-injective = status-injective simulate_error_number simulate_error_of simulate-error-positive simulate-error-back

-- ---- all refusals

refusal_of : ℕ → Refusal
refusal_of n =
    pick (eqb n 1) Refusals.ZeroTimerClock (
    pick (eqb n 2) Refusals.ZeroBitrate (
    pick (eqb n 3) Refusals.PeriodTooShort (
    pick (eqb n 4) Refusals.PeriodTooLong (
    pick (eqb n 5) Refusals.ValueOutOfRange (
    pick (eqb n 6) Refusals.ThrottleOutOfRange (
    pick (eqb n 7) Refusals.NoReply (
    pick (eqb n 8) Refusals.Overlong (
    pick (eqb n 9) Refusals.InvalidSymbol (
    pick (eqb n 10) Refusals.WrongChecksum (
    pick (eqb n 11) Refusals.ZeroPeriod (
    pick (eqb n 12) Refusals.NoSuchMotor (
    pick (eqb n 13) Refusals.WrongLength (
    pick (eqb n 14) Refusals.WrongDuty (
    pick (eqb n 15) Refusals.WrongPacketChecksum (
    pick (eqb n 16) Refusals.PeriodOutOfRange (
    pick (eqb n 17) Refusals.NotACapture (
    pick (eqb n 18) Refusals.BankFaulted (
    pick (eqb n 19) Refusals.MotorsRunning (
    pick (eqb n 20) Refusals.CommandPending (
    pick (eqb n 21) Refusals.TelemetryPending (
    pick (eqb n 22) Refusals.RepliesUnsupported (
    pick (eqb n 24) Refusals.BrokenDump (
    pick (eqb n 25) Refusals.NotDeclaredOnce (
    Refusals.TimeFalls))))))))))))))))))))))))

refusal-back : (r : Refusal) → refusal_of (refusal_number r) ≡ r
unfolding refusal_of
refusal-back Refusals.ZeroTimerClock = refl
refusal-back Refusals.ZeroBitrate = refl
refusal-back Refusals.PeriodTooShort = refl
refusal-back Refusals.PeriodTooLong = refl
refusal-back Refusals.ValueOutOfRange = refl
refusal-back Refusals.ThrottleOutOfRange = refl
refusal-back Refusals.NoReply = refl
refusal-back Refusals.Overlong = refl
refusal-back Refusals.InvalidSymbol = refl
refusal-back Refusals.WrongChecksum = refl
refusal-back Refusals.ZeroPeriod = refl
refusal-back Refusals.NoSuchMotor = refl
refusal-back Refusals.WrongLength = refl
refusal-back Refusals.WrongDuty = refl
refusal-back Refusals.WrongPacketChecksum = refl
refusal-back Refusals.PeriodOutOfRange = refl
refusal-back Refusals.NotACapture = refl
refusal-back Refusals.BankFaulted = refl
refusal-back Refusals.MotorsRunning = refl
refusal-back Refusals.CommandPending = refl
refusal-back Refusals.TelemetryPending = refl
refusal-back Refusals.RepliesUnsupported = refl
refusal-back Refusals.BrokenDump = refl
refusal-back Refusals.NotDeclaredOnce = refl
refusal-back Refusals.TimeFalls = refl

refusal-positive : (r : Refusal) → eqb (refusal_number r) 0 ≡ false
refusal-positive Refusals.ZeroTimerClock = refl
refusal-positive Refusals.ZeroBitrate = refl
refusal-positive Refusals.PeriodTooShort = refl
refusal-positive Refusals.PeriodTooLong = refl
refusal-positive Refusals.ValueOutOfRange = refl
refusal-positive Refusals.ThrottleOutOfRange = refl
refusal-positive Refusals.NoReply = refl
refusal-positive Refusals.Overlong = refl
refusal-positive Refusals.InvalidSymbol = refl
refusal-positive Refusals.WrongChecksum = refl
refusal-positive Refusals.ZeroPeriod = refl
refusal-positive Refusals.NoSuchMotor = refl
refusal-positive Refusals.WrongLength = refl
refusal-positive Refusals.WrongDuty = refl
refusal-positive Refusals.WrongPacketChecksum = refl
refusal-positive Refusals.PeriodOutOfRange = refl
refusal-positive Refusals.NotACapture = refl
refusal-positive Refusals.BankFaulted = refl
refusal-positive Refusals.MotorsRunning = refl
refusal-positive Refusals.CommandPending = refl
refusal-positive Refusals.TelemetryPending = refl
refusal-positive Refusals.RepliesUnsupported = refl
refusal-positive Refusals.BrokenDump = refl
refusal-positive Refusals.NotDeclaredOnce = refl
refusal-positive Refusals.TimeFalls = refl

pub refusal_number-injective : (r s : Refusal) → refusal_number r ≡ refusal_number s → r ≡ s
refusal_number-injective = injective refusal_number refusal_of refusal-back

-- the number that C gets determines the answer
pub status_number-injective : (s t : Result Unit Refusal) → status_number s ≡ status_number t → s ≡ t
status_number-injective = status-injective refusal_number refusal_of refusal-positive refusal-back
