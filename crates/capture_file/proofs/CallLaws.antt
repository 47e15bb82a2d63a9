-- The answers of reading and writing a whole file, and what they leave in the buffers.
-- Assumes nothing.
use mathlib.Core.Path.{◌≡◌, refl, sym, ap, ◌∙◌}
use mathlib.Core.Bool.{Bool, true, false}
use mathlib.Core.List.{List, [], ◌∷◌, ◌++◌}
use Prim.Native.Nat.{ℕ, zero, suc, ◌+◌, ◌≤◌, zero-le}
use native.Mathlib.Omega.{arith}
use mir.Val.{bool_byte}
use lib.Dec.{eqb, ltb}
use lib.ListN.{length, take, length-append}
use lib.Seq.{length-take-le}
use borrow.Author.Tests.{eq-eqb, le-ltb, ltb-false}
use Rattle.dshot_reply_spec.specs.Answer.{given, refused, and_then, pick, is_given, filled}
use Rattle.dshot_reply_spec.specs.Refusals.{not_acapture}
use Rattle.dshot_reply_spec.proofs.Choice.{not-both}
use Rattle.dshot_reply_spec.proofs.Given.{first-given, second-given, then-given}
use Rattle.capture_file.proofs.AnswerLaws.{same-given, not-given}
use Rattle.capture_file.proofs.AnswerLaws.{Read, found, lacking, read-then, read-pick}
use Rattle.capture_file.proofs.HeadLaws.{head_few}
use Rattle.capture_file.proofs.NumberLaws.{one-length, groups-count, groups-short}
use Rattle.capture_file.proofs.ReadBack.{all_most, file-most}
use Rattle.capture_file.proofs.ReadLaws.{groups-start}
use Rattle.capture_file.proofs.WriteLaws.{all_groups-append, put-put, put_first}
use Rattle.capture_file.specs.Groups.{read_number, read_all}
use Rattle.capture_file.specs.File.{file_samples, file_bytes, Capture, capture, read_head, read_file}
use Rattle.capture_file.specs.File.{all_groups, file_of, front, read_into, written_into, byte_count}
use Rattle.capture_file.specs.FileSteps.{put}

-- ---- every refusal of bytes has the same number

number-start : (s : List ℕ) → Read (read_number s)
unfolding read_number
number-start s = read-then _ (groups-start s) (λ r. read-pick (ltb 65535 r.number) (found r))

all_start : (n : ℕ) (s : List ℕ) → Read (read_all n s)
all_start zero [] = found []
all_start zero (b ∷ s) = lacking
all_start (suc n) s = read-then _ (number-start s) (λ r. read-then _ (all_start n r.rest) (λ xs. found _))

head-start : (s : List ℕ) → Read (read_head s)
unfolding read_head
head-start s =
    read-then _ (number-start s) (λ count. read-then _ (number-start count.rest) (λ mask. read-then _ (number-start mask.rest) (λ edt.
    read-pick (ltb file_samples count.number) (read-pick (ltb 1 edt.number) (found _)))))

pub file-start : (s : List ℕ) → Read (read_file s)
unfolding read_file
file-start s = read-then _ (head-start s) (λ h. read-then _ (all_start h.count h.rest) (λ xs. found _))

pub all_refused : (n : ℕ) (s : List ℕ) → is_given (read_all n s) ≡ false → read_all n s ≡ refused not_acapture
all_refused n s = not-given (all_start n s)

-- ---- a file that is read

-- as many samples as were asked for
pub all_length : (n : ℕ) (s xs : List ℕ) → read_all n s ≡ given xs → length xs ≡ n
all_length zero [] xs e = ap length (sym (same-given e))
all_length zero (b ∷ s) xs e = absurd (not-both e refl)
all_length (suc n) s xs e =
    let t = then-given (read_number s) _ e in
    let q = then-given (read_all n t.0.rest) _ t.2 in
    ap length (sym (same-given q.2)) ∙ ap suc (all_length n t.0.rest q.0 q.1)

-- no more samples than there are slots
pub file-few : (bytes : List ℕ) (c : Capture) → read_file bytes ≡ given c → length c.samples ≤ file_samples
unfolding read_file
file-few bytes c e =
    let t = then-given (read_head bytes) _ e in
    let q = then-given (read_all t.0.count t.0.rest) _ t.2 in
    let n = ap (λ (x : Capture). length x.samples) (sym (same-given q.2)) ∙ all_length t.0.count t.0.rest q.0 q.1 in
    omega (arith, head_few bytes t.0 t.1)

-- what is read into slots is what the file holds
pub into-given : (bytes slots : List ℕ) (c : Capture) → read_into bytes slots ≡ given c → read_file bytes ≡ given c
unfolding read_into
into-given bytes slots c e = (first-given _ (eqb (length slots) file_samples) e).1

pub into-is : (bytes slots : List ℕ) → length slots ≡ file_samples → read_into bytes slots ≡ read_file bytes
unfolding read_into
into-is bytes slots h = rw (eq-eqb (length slots) file_samples h)

-- a head, and the samples after it
module _ (bytes slots : List ℕ) (count mask : ℕ) (edt : Bool) (rest : List ℕ) (h : length slots ≡ file_samples)
    (e : given (record { count = count; mask = mask; edt = edt; rest = rest }) ≡ read_head bytes) where
  pub head-room : length (take count slots) ≡ count
  head-room = length-take-le count slots (omega (arith, head_few bytes _ (sym e)))

  pub read_whole : (xs : List ℕ) → read_all count rest ≡ given xs → read_into bytes slots ≡ given (capture mask edt xs)
  unfolding read_into read_file
  read_whole xs f = rw (eq-eqb (length slots) file_samples h, ← e, f)

-- for the goals of `file::read_capture`
pub ruleset read_cases = (all_refused, all_length, head_few, head-room, read_whole)

-- ---- a file that is written

flag-is : (b : Bool) → bool_byte b ≡ pick b 1 0
flag-is true = refl
flag-is false = refl

pub flag-small : (b : Bool) → bool_byte b ≤ 1
flag-small true = omega arith
flag-small false = omega arith

module _ (mask : ℕ) (edt : Bool) (xs out : List ℕ) (k : ℕ) (h : length xs ≤ file_samples) (room : length out ≡ file_bytes) (flag : k ≡ bool_byte edt) where
  -- the groups before the samples
  abbrev pub head_groups : List ℕ
  head_groups = all_groups (length xs ∷ mask ∷ k ∷ [])

  file-is : file_of (capture mask edt xs) ≡ head_groups ++ all_groups xs
  unfolding file_of
  file-is = rw (← flag-is edt, ← flag) (all_groups-append (length xs ∷ mask ∷ k ∷ []) xs)

  written_whole : written_into (capture mask edt xs) out ≡ given (file_of (capture mask edt xs))
  unfolding written_into
  written_whole = rw (le-ltb file_samples (length xs) h, eq-eqb (length out) file_bytes room)

  module _ (at : ℕ) (e : at ≡ 0 + length head_groups) where
    pub written-count : (n : ℕ) → n ≡ at + length (all_groups xs) → given n ≡ and_then (written_into (capture mask edt xs) out) byte_count
    written-count n f = rw written_whole (ap given (omega (arith, ap length file-is, length-append head_groups (all_groups xs))))

    pub written-file : (now after : List ℕ) → now ≡ put 0 head_groups out → after ≡ put at (all_groups xs) now
        → after ≡ filled (front out) out (written_into (capture mask edt xs) out)
    written-file now after f g =
        rw written_whole (
        g
        ∙ rw (e, f) (put-put 0 head_groups (all_groups xs) out zero-le)
        ∙ ap (λ (ys : List ℕ). put 0 ys out) (sym file-is)
        ∙ put_first (file_of (capture mask edt xs)) out
        )

-- for the goals of `file::write_capture`
pub ruleset write_cases = (length-append, groups-count, groups-short, one-length, all_most, flag-small, written-count, written-file)

-- a length that is answered is one of a file
pub written-fits : (c : Capture) (out : List ℕ) (n : ℕ) → given n ≡ and_then (written_into c out) byte_count → n ≤ file_bytes
unfolding written_into
written-fits c out n e =
    let w = then-given (written_into c out) byte_count (sym e) in
    let p = second-given _ (ltb file_samples (length c.samples)) w.1 in
    let q = first-given _ (eqb (length out) file_bytes) p.1 in
    let few = ltb-false file_samples (length c.samples) p.0 in
    omega (arith, file-most c few, ap length (same-given q.1), same-given w.2)
