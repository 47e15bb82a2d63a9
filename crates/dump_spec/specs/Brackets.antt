-- The syntax of indices as a relation, over the bytes of words and the gaps between words: `[3]`, `[7:0]`, `[ -1 : 0 ]`, and any number of these.
-- `automaton-is-syntax` proves that the automaton of specs/Names.antt accepts just what has a derivation here.
-- Assumes nothing.
use Rattle.std.specs.Prelude.{ℕ, ◌≡◌, true, List, [], ◌∷◌, ◌++◌, map}
use Rattle.dump_spec.specs.Words.{Word}
use Rattle.dump_spec.specs.Numbers.{is_digit}
use Rattle.dump_spec.specs.Names.{Part, index_word}

-- a byte of a word, or white space
pub data Symbol : Type 0 where
  byte : ℕ → Symbol
  gap : Symbol

-- the bytes of words, with a gap after each word
abbrev pub symbols_of : List Word → List Symbol
symbols_of [] = []
symbols_of (w ∷ ws) = map byte w ++ (gap ∷ symbols_of ws)

-- ---- The relations up to `Group` are between symbols and those of them that follow what the name says.

pub data Gaps : List Symbol → List Symbol → Type 0 where
  none : {s : List Symbol} → Gaps s s
  more : {s r : List Symbol} → Gaps s r → Gaps (gap ∷ s) r

-- one digit or more, with no gap between them
pub data Digits : List Symbol → List Symbol → Type 0 where
  one : {b : ℕ} {s : List Symbol} → is_digit b ≡ true → Digits (byte b ∷ s) s
  more : {b : ℕ} {s r : List Symbol} → is_digit b ≡ true → Digits s r → Digits (byte b ∷ s) r

-- digits, or a minus and digits
pub data Number : List Symbol → List Symbol → Type 0 where
  plain : {s r : List Symbol} → Digits s r → Number s r
  minus : {s r : List Symbol} → Digits s r → Number (byte 45 ∷ s) r

-- `[` number `]`, or `[` number `:` number `]`, with gaps around numbers
pub data Group : List Symbol → List Symbol → Type 0 where
  single : {s t u r : List Symbol} → Gaps s t → Number t u → Gaps u (byte 93 ∷ r) → Group (byte 91 ∷ s) r
  range : {s t u v w x r : List Symbol} → Gaps s t → Number t u → Gaps u (byte 58 ∷ v) → Gaps v w → Number w x → Gaps x (byte 93 ∷ r)
      → Group (byte 91 ∷ s) r

-- groups with gaps before, between and after them, and nothing else
pub data Groups : List Symbol → Type 0 where
  over : {s : List Symbol} → Gaps s [] → Groups s
  group : {s t r : List Symbol} → Gaps s t → Group t r → Groups r → Groups s

-- ---- the automaton over words

abbrev pub index_words : Part → List Word → Part
index_words p [] = p
index_words p (w ∷ ws) = index_words (index_word p w) ws
