-- A text as words. Blanks, tabs, line feeds, form feeds and carriage returns stand between them (IEEE 1364 clause 18, and CR for files of Windows).
-- Assumes nothing.
use Rattle.std.specs.Prelude.{ℕ, ◌+◌, Bool, true, false, List, [], ◌∷◌, ◌++◌, eqb, leb, ltb, length, if◌then◌else◌}
use Rattle.dshot_reply_spec.specs.Ascii.{ascii}

abbrev pub Word : Type 0
Word = List ℕ

-- a word, and the place of its first byte in the text
pub record Placed : Type 0 where
  pub at : ℕ
  pub bytes : Word

abbrev pub placed : ℕ → Word → Placed
placed p w = record { at = p; bytes = w }

-- blank, tab, line feed, form feed, carriage return
unfoldable pub is_blank : ℕ → Bool
is_blank b = if eqb b 32 then true else if eqb b 9 then true else if eqb b 10 then true else if eqb b 12 then true else eqb b 13

-- a word before others, if it has a byte
abbrev pub put : ℕ → Word → List Placed → List Placed
put p [] ws = ws
put p (b ∷ w) ws = placed p (b ∷ w) ∷ ws

-- the words of a text, if w has been read of the first word, which begins at p
abbrev pub split : ℕ → Word → List ℕ → List Placed
split p w [] = put p w []
split p w (b ∷ s) = if is_blank b then put p w (split (p + length w + 1) [] s) else split p (w ++ (b ∷ [])) s

-- the words of bytes that stand in a text from p on
unfoldable pub words_from : ℕ → List ℕ → List Placed
words_from p s = split p [] s

-- whether two words are the same
abbrev pub same : Word → Word → Bool
same [] [] = true
same [] (b ∷ v) = false
same (a ∷ w) [] = false
same (a ∷ w) (b ∷ v) = if eqb a b then same w v else false

-- whether a word is one of some words
abbrev pub one_of : List Word → Word → Bool
one_of [] w = false
one_of (v ∷ vs) w = if same w v then true else one_of vs w

-- whether a word has a byte, and whether all its bytes pass a test
abbrev pub some : Word → Bool
some [] = false
some (b ∷ w) = true

abbrev pub all : (ℕ → Bool) → Word → Bool
all p [] = true
all p (b ∷ w) = if p b then all p w else false

-- the bytes ! to ~
unfoldable pub is_printable : ℕ → Bool
is_printable b = if ltb b 33 then false else leb b 126

-- the code after a scalar value
unfoldable pub is_code : Word → Bool
is_code w = if some w then all is_printable w else false

abbrev pub end_word : Word
end_word = ascii "$end"

unfoldable pub is_end : Word → Bool
is_end w = same w end_word

-- a name, or a code that stands as a word of its own: anything printable except `$end`
unfoldable pub is_name : Word → Bool
is_name w = if is_end w then false else is_code w
