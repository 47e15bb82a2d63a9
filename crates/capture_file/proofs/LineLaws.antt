-- A line that grows byte by byte. All that is written is there, one after the other, with zeros after it. Every line fits.
-- Assumes nothing.
use mathlib.Core.Path.{◌≡◌, refl, sym, ap, ◌∙◌}
use mathlib.Core.Logic.{⊎_elim}
use mathlib.Core.List.{List, [], ◌∷◌, ◌++◌, append_assoc, append-nil}
use Prim.Native.Nat.{ℕ, suc, ◌+◌, ◌-◌, ◌≤◌, ◌<◌, zero-le}
use native.Mathlib.Omega.{arith}
use lib.Dec.{leb, leb→le}
use lib.ListN.{length, set, replicate, length-append, get_or-eq_default}
use lib.Seq.{set-append_seam, append_snoc}
use borrow.Author.Tests.{lt-ltb}
use Rattle.dshot_reply_spec.proofs.Cases.{lt-or-ge}
use Rattle.dshot_reply_spec.proofs.Table.{at}
use Rattle.dshot_reply_spec.specs.Answer.{Answer, given, refused}
use Rattle.dshot_reply_spec.specs.Kind.{kind_number, reading_number}
use Rattle.capture_file.specs.declared.line.Line.{Line}
use Rattle.dshot_reply_spec.specs.Value.{Reading}
use Rattle.capture_file.specs.Line.{Listed, ascii, hexadecimal, decimal, kind_texts, kind_text, line_of, padded}
use Rattle.capture_file.specs.Steps.{pushed, written}
use Rattle.capture_file.proofs.DigitLaws.{hexadecimal-none, hexadecimal-more, decimal-one, decimal-more, length-hexadecimal, length-decimal}

-- bytes that follow others
pub written-append : (line : Line) (xs ys : List ℕ) → written line (xs ++ ys) ≡ written (written line xs) ys
written-append line [] ys = refl
written-append line (x ∷ xs) ys = written-append (pushed line x) xs ys

-- one byte more after bytes with zeros after them
pushed-padded : (xs : List ℕ) (b : ℕ) → length xs < 32 → pushed (padded xs) b ≡ padded (xs ++ (b ∷ []))
unfolding pushed
pushed-padded xs b h =
    let n = 31 - length xs in
    let longer = length-append xs (b ∷ []) in
    let room : 32 - length xs ≡ suc n = omega arith in
    let left : n ≡ 32 - length (xs ++ (b ∷ [])) = omega (arith, longer) in
    let bytes : set (xs ++ replicate (32 - length xs) 0) (length xs) b ≡ xs ++ (b ∷ []) ++ replicate (32 - length (xs ++ (b ∷ []))) 0 =
    ap (λ (m : ℕ). set (xs ++ replicate m 0) (length xs) b) room
    ∙ set-append_seam xs 0 (replicate n 0) b
    ∙ sym (append_snoc xs b (replicate n 0))
    ∙ ap (λ (m : ℕ). xs ++ (b ∷ []) ++ replicate m 0) left in
    rw (lt-ltb (length xs) 32 h) (λ j. record { bytes = bytes j; length = sym longer j })

pub written-padded : (xs ys : List ℕ) → length xs + length ys ≤ 32 → written (padded xs) ys ≡ padded (xs ++ ys)
written-padded xs [] h = ap padded (sym (append-nil xs))
written-padded xs (y ∷ ys) h =
    ap (λ (l : Line). written l ys) (pushed-padded xs y (omega arith))
    ∙ written-padded (xs ++ (y ∷ [])) ys (omega (arith, length-append xs (y ∷ [])))
    ∙ ap padded (append_assoc xs (y ∷ []) ys)

-- one byte more
pub written_one : (line : Line) (xs : List ℕ) (b : ℕ) → pushed (written line xs) b ≡ written line (xs ++ (b ∷ []))
written_one line xs b = sym (written-append line xs (b ∷ []))

-- a kind's word has at most six letters, and no kind has none
length-kind : (k : ℕ) → length (kind_text k) ≤ 6
unfolding kind_text
length-kind k =
    ⊎_elim
    (λ l. leb→le (length (kind_text k)) 6 (at (λ n. leb (length (kind_text n)) 6) 9 tt k l))
    (λ g. rw (get_or-eq_default kind_texts "" {n = k} g) zero-le)
    (lt-or-ge k 9)

-- No line has more than 29 bytes, whatever it says: a word, a value, a debug channel and ten digits.
pub line-fits : (a : Answer Listed) → length (line_of a) ≤ 29
unfolding line_of
line-fits (given l) =
    simp (length-append, length-hexadecimal)
    (omega (arith, length-kind (kind_number l.reading), length-decimal 10 (reading_number l.reading)))
line-fits (refused n) = simp length-append (omega (arith, length-decimal 10 n))

-- a line that is written into an empty one is all there
pub written-line : (a : Answer Listed) → written (padded []) (line_of a) ≡ padded (line_of a)
written-line a = written-padded [] (line_of a) (omega (arith, line-fits a))

-- ---- the fields of a line, one after the other

pub refused_fields : (n : ℕ) → pushed (written (written (padded []) (ascii "refused ")) (decimal n)) 10 ≡ padded (line_of (refused n))
unfolding line_of
refused_fields n =
    let start = ascii "refused " in
    sym (written-append (padded []) start (decimal n ++ ascii "\n") ∙ written-append (written (padded []) start) (decimal n) (ascii "\n"))
    ∙ written-line (refused n)

pub listed_fields : (w v : ℕ) (r : Reading)
    → pushed (written (pushed (written (pushed (written (pushed (written (padded [])
    (hexadecimal 6 w)) 32) (hexadecimal 3 v)) 32) (kind_text (kind_number r))) 32) (decimal (reading_number r))) 10
    ≡ padded (line_of (given (record { word = w; value = v; reading = r })))
unfolding line_of
listed_fields w v r =
    sym
    (written-append _ (hexadecimal 6 w) _
    ∙ written-append _ (hexadecimal 3 v) _
    ∙ written-append _ (kind_text (kind_number r)) _
    ∙ written-append _ (decimal (reading_number r)) _)
    ∙ written-line (given (record { word = w; value = v; reading = r }))

-- the words of the kinds
pub kind_words : (kind_text 0 ≡ ascii "erpm") × (kind_text 1 ≡ ascii "temp") × (kind_text 2 ≡ ascii "volt") × (kind_text 3 ≡ ascii "amp")
    × (kind_text 4 ≡ ascii "debug1") × (kind_text 5 ≡ ascii "debug2") × (kind_text 6 ≡ ascii "debug3")
    × (kind_text 7 ≡ ascii "state") × (kind_text 8 ≡ ascii "edt") × (kind_text 9 ≡ [])
unfolding kind_text
kind_words = (refl, refl, refl, refl, refl, refl, refl, refl, refl, refl)

-- for the goals of `line::Line::push_hexadecimal` and `push_decimal`
pub ruleset digit_cases = (written_one, hexadecimal-none, hexadecimal-more, decimal-one, decimal-more)
