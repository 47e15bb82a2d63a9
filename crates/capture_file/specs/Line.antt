-- The line that the bench prints for one capture (document 01, "The bench's line"), as bytes.
-- Assumes nothing.
use Rattle.std.specs.Prelude.{ℕ, zero, suc, ◌-◌, ◌/◌, ◌%◌, Bool, List, [], ◌∷◌, ◌++◌, ltb, length, get_or, replicate, if◌then◌else◌}
use Prim.Native.Char.{code}
use Prim.Native.String as Text
use Prim.Native.String.{String}
use Rattle.dshot_reply_spec.specs.Answer.{Answer, given, refused, and_then}
use Rattle.dshot_reply_spec.specs.Gcr.{decode_word}
use Rattle.dshot_reply_spec.specs.Kind.{kind_number, reading_number}
use Rattle.dshot_reply_spec.specs.Runs.{transitions_of}
use Rattle.dshot_reply_spec.specs.Value.{Reading, reply_of}
use Rattle.capture_file.specs.declared.line.Line.{Line}

-- what the line says of a capture that can be read
pub record Listed : Type 0 where
  pub word : ℕ
  pub value : ℕ
  pub reading : Reading

-- What each layer of the reader gives, or the first refusal. The three definitions are for a word's value, for a word, and for a capture at three
-- samples a bit.
unfoldable pub listed_value : ℕ → ℕ → Bool → Answer Listed
listed_value w v extended = and_then (reply_of v extended) (λ r. given (record { word = w; value = v; reading = r }))

unfoldable pub listed_word : ℕ → Bool → Answer Listed
listed_word w extended = and_then (decode_word w) (λ v. listed_value w v extended)

unfoldable pub listed_of : List ℕ → ℕ → Bool → Answer Listed
listed_of samples mask extended = and_then (transitions_of 3 samples mask) (λ w. listed_word w extended)

-- a text in ASCII
abbrev pub ascii : String → List ℕ
ascii Text.[] = []
ascii (Text.◌∷◌ c s) = code c ∷ ascii s

-- a digit of base ten or sixteen
unfoldable pub digit : ℕ → ℕ
digit d = get_or (ascii "0123456789abcdef") d 0

-- the lowest n hexadecimal digits of a number, with leading zeros
unfoldable pub hexadecimal : ℕ → ℕ → List ℕ
hexadecimal zero x = []
hexadecimal (suc n) x = hexadecimal n (x / 16) ++ (digit (x % 16) ∷ [])

-- A number's decimal digits, with no leading zeros. They are at most n, which is enough for a number below 10 ^ n.
unfoldable pub decimal_within : ℕ → ℕ → List ℕ
decimal_within zero x = []
decimal_within (suc n) x = if ltb x 10 then digit x ∷ [] else decimal_within n (x / 10) ++ (digit (x % 10) ∷ [])

-- the decimal digits of a number of 32 bits: ten are enough
abbrev pub decimal : ℕ → List ℕ
decimal x = decimal_within 10 x

-- the words of the kinds, in the order of their numbers; a number that is no kind has no word
abbrev pub kind_texts : List String
kind_texts = "erpm" ∷ "temp" ∷ "volt" ∷ "amp" ∷ "debug1" ∷ "debug2" ∷ "debug3" ∷ "state" ∷ "edt" ∷ []

unfoldable pub kind_text : ℕ → List ℕ
kind_text kind = ascii (get_or kind_texts kind "")

-- fields with a space between them, and a line feed after them
abbrev pub spaced : List (List ℕ) → List ℕ
spaced [] = ascii "\n"
spaced (f ∷ []) = f ++ ascii "\n"
spaced (f ∷ g ∷ fs) = f ++ (ascii " " ++ spaced (g ∷ fs))

-- The line: word, value, kind and number. If the capture is refused, it is "refused" and the number of the refusal.
unfoldable pub line_of : Answer Listed → List ℕ
line_of (given l) =
    spaced (hexadecimal 6 l.word ∷ hexadecimal 3 l.value ∷ kind_text (kind_number l.reading) ∷ decimal (reading_number l.reading) ∷ [])
line_of (refused n) = spaced (ascii "refused" ∷ decimal n ∷ [])

-- a line as the code hands it out: its bytes, zeros after them, and the number of its bytes
abbrev pub padded : List ℕ → Line
padded l = record { bytes = l ++ replicate (32 - length l) 0; length = length l }
