-- Steps along the digits of a number.
-- Assumes nothing.
use Rattle.std.proofs.Common.{◌≡◌, ℕ, ◌+◌, ◌*◌, ◌≤◌, ◌<◌, Option, Some, None, List, [], ◌∷◌, eqb, ltb, if◌then◌else◌, length, drop, get_or, refl, ap, ◌∙◌, add-one, arith, drop_of_length-le, drop-cons, true, false, lt-ltb, le-ltb, not, Bool}
use Rattle.std.specs.Bool.{then_some}
use Rattle.case_text.specs.Numbers.{digit_of, digit_before, digits, numeral, past64, ended, number_of}

-- the answer for a number that starts at `from`, if the bytes before place i give v and these digits are left
unfoldable pub read_digits : List ℕ → ℕ → ℕ → ℕ → Option (ℕ × ℕ)
read_digits ds from v i = if ltb (numeral v ds) past64 then ended (numeral v ds) from (i + length ds) else None

pub read-start : (ds : List ℕ) (from : ℕ) → number_of ds from ≡ read_digits ds from 0 from
unfolding number_of read_digits
read-start ds from = refl

unless : {A : Type 0} (t : Bool) (x : A) → then_some (not t) x ≡ (if t then None else Some x)
unless true x = refl
unless false x = refl

-- the answer, if a number ends at a place
pub ended-is : (value from to : ℕ) → then_some (not (eqb from to)) (value, to) ≡ ended value from to
unfolding ended
ended-is value from to = unless (eqb from to) (value, to)

-- more digits make no smaller number
numeral-least : (v : ℕ) (ds : List ℕ) → v ≤ numeral v ds
numeral-least v [] = omega arith
numeral-least v (d ∷ ds) = omega (arith, numeral-least (v * 10 + d) ds)

none_left : (from v i : ℕ) → v < past64 → read_digits [] from v i ≡ ended v from i
unfolding read_digits
none_left from v i h = rw (lt-ltb v past64 h) (ap (ended v from) (omega arith))

one_left : (d : ℕ) (ds : List ℕ) (from v i : ℕ) → read_digits (d ∷ ds) from v i ≡ read_digits ds from (v * 10 + d) (i + 1)
unfolding read_digits
one_left d ds from v i =
    let n = numeral (v * 10 + d) ds in
    ap (λ (p : ℕ). if ltb n past64 then ended n from p else None) (omega arith)

too_large : (ds : List ℕ) (from v i : ℕ) → past64 ≤ v → read_digits ds from v i ≡ None
unfolding read_digits
too_large ds from v i h = rw (le-ltb (numeral v ds) past64 (omega (arith, numeral-least v ds)))

-- the same for the digits of bytes from place j on
module _ (s : List ℕ) (j from v i : ℕ) where
  -- the digits from a place on: none, if the byte there is no digit; else its digit, then those after it
  digits-here : j < length s → digits (drop j s) ≡ digit_before (digit_of (get_or s j 0)) (digits (drop (j + 1) s))
  digits-here h = rw (add-one, drop-cons s j 0)

  pub read-end : length s ≤ j → v < past64 → read_digits (digits (drop j s)) from v i ≡ ended v from i
  read-end l h = rw (drop_of_length-le s l) (none_left from v i h)

  pub read-stop : j < length s → digit_of (get_or s j 0) ≡ None → v < past64 → read_digits (digits (drop j s)) from v i ≡ ended v from i
  read-stop l e h = rw (digits-here l, e) (none_left from v i h)

  pub read_more : (d : ℕ) → j < length s → digit_of (get_or s j 0) ≡ Some d → read_digits (digits (drop j s)) from v i ≡ read_digits (digits (drop (j + 1) s)) from (v * 10 + d) (i + 1)
  read_more d l e = rw (digits-here l, e) (one_left d (digits (drop (j + 1) s)) from v i)

  pub read-large : (d : ℕ) → j < length s → digit_of (get_or s j 0) ≡ Some d → past64 ≤ v * 10 + d → read_digits (digits (drop j s)) from v i ≡ None
  read-large d l e h = read_more d l e ∙ too_large (digits (drop (j + 1) s)) from (v * 10 + d) (i + 1) h

-- what a turn of the loop needs
pub ruleset steps = (read-start, read_more, read-large)
