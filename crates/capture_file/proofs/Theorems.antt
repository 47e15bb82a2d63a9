-- Capture files and captures are one to one. A file that was written reads back. If bytes read as a capture, they are its only file.
-- Assumes nothing.
use mathlib.Core.Path.{◌≡◌, sym, ap, ◌∙◌}
use mathlib.Core.List.{List, [], ◌∷◌}
use Prim.Native.Nat.{ℕ, zero, suc, ◌≤◌, ◌<◌}
use native.Mathlib.Omega.{arith}
use lib.ListN.{length, get_or}
use borrow.Author.Tests.{eq-eqb, le-ltb}
use Rattle.dshot_reply_spec.specs.Answer.{given, refused}
use Rattle.dshot_reply_spec.specs.Refusals.{not_acapture}
use Rattle.capture_file.proofs.AnswerLaws.{same-given, same-refusal}
use Rattle.capture_file.proofs.ReadBack.{file-read, file-most}
use Rattle.capture_file.proofs.OneFile.{file-written}
use Rattle.capture_file.proofs.CallLaws.{file-start, into-is}
use Rattle.capture_file.specs.File.{file_samples, file_bytes, Capture, UpTo, Valid, file_of, read_file, read_into, written_into}

pub written-reads : (c : Capture) → Valid c → read_file (file_of c) ≡ given c
written-reads = file-read

-- a reader with its slots has the capture back that a writer with its buffer was given
pub reads-back : (c : Capture) (slots : List ℕ) → Valid c → length slots ≡ file_samples → read_into (file_of c) slots ≡ given c
reads-back c slots v h = into-is (file_of c) slots h ∙ written-reads c v

pub writes-all : (c : Capture) (out : List ℕ) → Valid c → length out ≡ file_bytes → written_into c out ≡ given (file_of c)
unfolding written_into
writes-all c out v h = rw (le-ltb file_samples (length c.samples) v.count, eq-eqb (length out) file_bytes h)

-- bytes that read as a capture are the file of that capture, which a file can hold
pub read-written : (bytes : List ℕ) (c : Capture) → UpTo 255 bytes → read_file bytes ≡ given c → (bytes ≡ file_of c) × Valid c
read-written = file-written

pub one-file : (a b : List ℕ) (c : Capture) → UpTo 255 a → UpTo 255 b → read_file a ≡ given c → read_file b ≡ given c → a ≡ b
one-file a b c u v e f = (read-written a c u e).0 ∙ sym (read-written b c v f).0

-- two captures with the same file are the same
pub one-capture : (c d : Capture) → Valid c → Valid d → file_of c ≡ file_of d → c ≡ d
one-capture c d v w e = same-given (sym (written-reads c v) ∙ ap read_file e ∙ written-reads d w)

pub longest : (c : Capture) → Valid c → length (file_of c) ≤ file_bytes
longest c v = file-most c v.count

-- all other bytes are refused with one number
pub only-refusal : (bytes : List ℕ) (n : ℕ) → read_file bytes ≡ refused n → n ≡ not_acapture
only-refusal bytes n e = same-refusal (read_file bytes) n (file-start bytes) e

-- each element within a bound, given by its place, as the bytes of a slice are
pub up_to : (n : ℕ) (xs : List ℕ) → ((i : ℕ) → i < length xs → get_or xs i 0 ≤ n) → UpTo n xs
up_to n [] h = tt
up_to n (x ∷ xs) h = (h zero (omega arith), up_to n xs (λ i l. h (suc i) (omega (arith, l))))
