-- The bench's line says what the carrier's reader answers, refusals included. Its fields hold the whole word, value and number. What the simulated
-- ESC writes prints the value's line. Document 01's example is among them.
-- Assumes nothing.
use mathlib.Core.Logic.{⊎_elim}
use mathlib.Core.Path.{◌≡◌, refl, sym, ap, ◌∙◌}
use mathlib.Core.Bool.{Bool, false}
use mathlib.Core.List.{List}
use Prim.Native.Nat.{ℕ, ◌*◌, ◌%◌, ◌^◌, ◌<◌}
use native.Mathlib.Nat.{div-lt_iff_lt-mul, lt_of_lt_of_le}
use native.Mathlib.Omega.{arith}
use lib.Dec.{lit<, lit≤}
use lib.Pow.{pow_pos}
use Rattle.dshot_reply_spec.proofs.Choice.{not-both}
use Rattle.dshot_reply_spec.proofs.Decode.{decode-reply, ends-in-zeros}
use Rattle.dshot_reply_spec.proofs.Documents.{decoded}
use Rattle.dshot_reply_spec.proofs.ReadingKinds.{number-most}
use Rattle.dshot_reply_spec.proofs.Rendered.{rendered-read}
use Rattle.dshot_reply_spec.proofs.Simulated.{simulated-renders}
use Rattle.dshot_reply_spec.proofs.Words.{transitions-start}
use Rattle.dshot_reply_spec.specs.Answer.{Answer, given, refused, and_then}
use Rattle.dshot_reply_spec.specs.Gcr.{decode_word, reply_word, word_of}
use Rattle.dshot_reply_spec.specs.Kind.{reading_number}
use Rattle.dshot_reply_spec.specs.Reading.{sampled_reply, word_reply}
use Rattle.dshot_reply_spec.specs.Render.{Renders}
use Rattle.dshot_reply_spec.specs.Runs.{levels, transitions_of}
use Rattle.dshot_reply_spec.specs.Simulate.{simulated}
use Rattle.dshot_reply_spec.specs.Value.{Reading, reply_of, speed_value}
use Rattle.capture_file.specs.Digits.{digits_value}
use Rattle.capture_file.specs.Line.{Listed, listed_value, listed_word, listed_of, ascii, digit, hexadecimal, decimal_within, decimal, kind_text, line_of}
use Rattle.capture_file.proofs.DigitsBack.{hexadecimal-back, decimal-back}

-- ---- carrier and bench read a capture alike

-- a step after a step is a step after both
then-then : {A B C : Type 0} (a : Answer A) (f : A → Answer B) (g : B → Answer C) (h : A → Answer C)
    → ((x : A) → and_then (f x) g ≡ h x) → and_then (and_then a f) g ≡ and_then a h
then-then (given x) f g h e = e x
then-then (refused n) f g h e = refl

then-given : {A : Type 0} (a : Answer A) → and_then a given ≡ a
then-given (given x) = refl
then-given (refused n) = refl

abbrev reading : Listed → Answer Reading
reading l = given l.reading

value-reads : (w v : ℕ) (extended : Bool) → and_then (listed_value w v extended) reading ≡ reply_of v extended
unfolding listed_value
value-reads w v extended = then-then (reply_of v extended) _ reading given (λ r. refl) ∙ then-given (reply_of v extended)

word-reads : (w : ℕ) (extended : Bool) → and_then (listed_word w extended) reading ≡ word_reply w extended
unfolding listed_word word_reply
word-reads w extended = then-then (decode_word w) _ reading _ (λ v. value-reads w v extended)

pub listed-reads : (samples : List ℕ) (mask : ℕ) (extended : Bool)
    → and_then (listed_of samples mask extended) (λ l. given l.reading) ≡ sampled_reply 3 samples mask extended
unfolding listed_of sampled_reply
listed-reads samples mask extended = then-then (transitions_of 3 samples mask) _ reading _ (λ w. word-reads w extended)

-- ---- what is listed is what each layer gives, and nothing of it is cut off

then-gives : {A B : Type 0} {y : B} (a : Answer A) (f : A → Answer B) → and_then a f ≡ given y → (x : A) × ((a ≡ given x) × (f x ≡ given y))
then-gives (given x) f e = (x, (refl, e))
then-gives (refused n) f e = absurd (not-both e refl)

module _ (samples : List ℕ) (mask : ℕ) (extended : Bool) (l : Listed) (e : listed_of samples mask extended ≡ given l) where
  pub listed-layers : (transitions_of 3 samples mask ≡ given l.word)
      × (decode_word l.word ≡ given l.value) × (reply_of l.value extended ≡ given l.reading)
  unfolding listed_of listed_word listed_value
  listed-layers =
      let a = then-gives (transitions_of 3 samples mask) _ e in
      let b = then-gives (decode_word a.0) _ a.1.1 in
      let c = then-gives (reply_of b.0 extended) _ b.1.1 in
      let same = c.1.1 in
      let w : a.0 ≡ l.word = cc in
      let v : b.0 ≡ l.value = cc in
      let r : c.0 ≡ l.reading = cc in
      (a.1.0 ∙ ap given w, sym (ap decode_word w) ∙ b.1.0 ∙ ap given v, sym (ap (λ n. reply_of n extended) v) ∙ c.1.0 ∙ ap given r)

  -- the digits of the line read back as the word, the value and the number
  pub word_back : digits_value 16 0 (hexadecimal 6 l.word) ≡ l.word
  word_back =
      let start = transitions-start 3 samples mask l.word listed-layers.0 in
      let small : l.word < 2 * 2 ^ 20 = (div-lt_iff_lt-mul {k = 2 ^ 20} {y = 2} (pow_pos 20)).0 (omega arith) in
      hexadecimal-back 6 l.word (lt_of_lt_of_le small (lit≤ tt))

  pub value-back : digits_value 16 0 (hexadecimal 3 l.value) ≡ l.value
  value-back = hexadecimal-back 3 l.value (decoded l.word l.value listed-layers.1).0

  pub number-back : digits_value 10 0 (decimal (reading_number l.reading)) ≡ reading_number l.reading
  number-back =
      let most = number-most l.value extended l.reading listed-layers.2 in
      decimal-back (reading_number l.reading) (omega arith)

-- ---- a capture that renders a value's reply word lists that word and that value

pub rendered-listed : (samples : List ℕ) (mask : ℕ) (extended : Bool) (v : ℕ) → Renders 3 (levels mask samples) (reply_word v)
    → listed_of samples mask extended ≡ listed_value (reply_word v) (v % 4096) extended
unfolding listed_of listed_word transitions_of
rendered-listed samples mask extended v r =
    ⊎_elim
    (λ e. ap (λ t. and_then t (λ w. listed_word w extended)) e ∙ ap (λ d. and_then d (λ x. listed_value (reply_word v) x extended)) (decode-reply v))
    (λ q. absurd (not-both (decode-reply v) (ends-in-zeros (reply_word v) q.1)))
    (rendered-read 3 (lit< tt) (levels mask samples) (reply_word v) r)

-- so does what the simulated ESC writes
pub simulated-listed : (out : List ℕ) (v lead mask : ℕ) (l : List ℕ) (extended : Bool) → simulated 3 out v lead mask ≡ given l
    → listed_of l mask extended ≡ listed_value (reply_word v) (v % 4096) extended
simulated-listed out v lead mask l extended e = rendered-listed l mask extended v (simulated-renders 3 (lit< tt) out v lead mask l e)

-- document 01's example, whatever the buffer's length
pub document-line : (out l : List ℕ) → simulated 3 out 0xfff 10 1 ≡ given l → line_of (listed_of l 1 false) ≡ ascii "17bdf9 fff erpm 0\n"
unfolding reply_word word_of reply_of speed_value listed_value digit hexadecimal decimal_within kind_text line_of
document-line out l e = ap line_of (simulated-listed out 0xfff 10 1 l false e)
