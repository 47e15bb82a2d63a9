-- The definitions that give each enum document 01's numbers and values are injective. So the equation of a promise determines the answer.
-- Assumes nothing.
use mathlib.Core.Path.{◌≡◌, refl}
use Prim.Native.Nat.{ℕ}
use lib.Dec.{eqb}
use Rattle.std.specs.Prelude.{Result}
use Rattle.dshot_reply.proofs.Injective.{answer-injective}
use Rattle.dshot_reply_spec.specs.Answer.{pick}
use Rattle.dshot_reply_spec.specs.Refusals.{not_acapture}
use Rattle.capture_file.specs.File.{Told}
use Rattle.capture_file.specs.FileAnswers.{capture_error_number, capture_told, read_answer, written_answer}
use Rattle.capture_file.specs.declared.file.Capture.{Capture}
use Rattle.capture_file.specs.declared.file.CaptureError.{CaptureError}
use Rattle.capture_file.specs.declared.file.CaptureError.TheVariants.{NotACapture, WrongLength}

error_of : ℕ → CaptureError
error_of n = pick (eqb n not_acapture) NotACapture WrongLength

error-back : (e : CaptureError) → error_of (capture_error_number e) ≡ e
unfolding error_of
error-back NotACapture = refl
error-back WrongLength = refl

told_of : Told → Capture
told_of t = record { count = t.count; mask = t.mask; extended_telemetry = t.edt }

told-back : (c : Capture) → told_of (capture_told c) ≡ c
unfolding told_of
told-back c = refl

pub read_answer-injective : (r s : Result Capture CaptureError) → read_answer r ≡ read_answer s → r ≡ s
read_answer-injective = answer-injective capture_told told_of capture_error_number error_of told-back error-back

pub written_answer-injective : (w x : Result ℕ CaptureError) → written_answer w ≡ written_answer x → w ≡ x
written_answer-injective = answer-injective (λ n. n) (λ n. n) capture_error_number error_of (λ n. refl) error-back
