-- The line of a file, from what reading it into slots answers and leaves in them.
-- Assumes nothing.
use mathlib.Core.Path.{◌≡◌, sym, ap, ◌∙◌}
use mathlib.Core.Bool.{Bool}
use mathlib.Core.List.{List}
use Prim.Native.Nat.{ℕ, ◌≤◌}
use native.Mathlib.Omega.{arith}
use lib.ListN.{length, take, drop}
use lib.Seq.{take-append_seam, length-take-le}
use Rattle.dshot_reply_spec.specs.Answer.{Answer, given, refused, and_then, filled}
use Rattle.dshot_reply_spec.proofs.Given.{then-given}
use Rattle.capture_file.proofs.AnswerLaws.{same-given, then-refused}
use Rattle.capture_file.proofs.CallLaws.{into-is, into-given, file-few}
use Rattle.capture_file.specs.File.{file_samples, Capture, front, slots_of, read_into, Told, told}
use Rattle.capture_file.specs.declared.line.Line.{Line}
use Rattle.capture_file.specs.Line.{listed_of, line_of, padded}
use Rattle.capture_file.specs.Listing.{listed_capture, file_line}

module _ (bytes slots : List ℕ) where
  pub refused-file : {n : ℕ} {r : Line} → length slots ≡ file_samples → refused n ≡ and_then (read_into bytes slots) told
      → r ≡ padded (line_of (refused n)) → r ≡ padded (file_line bytes)
  unfolding file_line
  refused-file h e g =
      let none = sym (into-is bytes slots h) ∙ then-refused (read_into bytes slots) _ (sym e) in
      g ∙ sym (ap (λ (a : Answer Capture). padded (line_of (and_then a listed_capture))) none)

  module _ (t : Told) (e : given t ≡ and_then (read_into bytes slots) told) where
    -- the capture that the reader answered
    pub capture-of : (c : Capture) × (read_into bytes slots ≡ given c) × (told c ≡ given t)
    capture-of = then-given (read_into bytes slots) told (sym e)

    pub count_fits : t.count ≤ file_samples
    count_fits =
        let c = capture-of in
        let n : length c.0.samples ≡ t.count = ap (λ (x : Told). x.count) (same-given c.2) in
        omega (arith, file-few bytes c.0 (into-given bytes slots c.0 c.1))

  -- the first slots hold its samples
  pub listed-file : {after : List ℕ} {r : Line} (count mask : ℕ) (edt : Bool)
      → given (record { count = count; mask = mask; edt = edt }) ≡ and_then (read_into bytes slots) told
      → after ≡ filled (slots_of slots) slots (read_into bytes slots)
      → r ≡ padded (line_of (listed_of (take count after) mask edt)) → r ≡ padded (file_line bytes)
  unfolding file_line listed_capture
  listed-file {after} count mask edt e f g =
      let c = capture-of _ e in
      let xs = c.0.samples in
      let whole = f ∙ ap (filled (slots_of slots) slots) c.1 in
      let first : take (length xs) (front slots xs) ≡ xs = take-append_seam xs (drop (length xs) slots) in
      let line : List ℕ → Line = λ l. padded (line_of (listed_of l c.0.mask c.0.edt)) in
      g
      ∙ ap (λ (x : Told). padded (line_of (listed_of (take x.count after) x.mask x.edt))) (sym (same-given c.2))
      ∙ ap (λ (l : List ℕ). line (take (length xs) l)) whole
      ∙ ap line first
      ∙ sym (ap (λ (a : Answer Capture). padded (line_of (and_then a listed_capture))) (into-given bytes slots c.0 c.1))

-- for the goals of `list::file_line`
pub ruleset file_line_cases = (refused-file, count_fits, listed-file, length-take-le)
