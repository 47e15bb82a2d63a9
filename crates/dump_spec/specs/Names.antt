-- The name of a variable without its index (document 02: "without scopes or index"). An index stands in brackets behind the name, glued or apart.
-- Assumes nothing.
use Rattle.std.specs.Prelude.{ℕ, ◌+◌, Bool, true, false, [], ◌∷◌, eqb, length, take, drop, if◌then◌else◌}
use Rattle.dump_spec.specs.Words.{Word, some}
use Rattle.dump_spec.specs.Numbers.{is_digit}

-- Where reading stands among indices: outside brackets, or inside them. Inside it is before a number, after its minus, among its digits, or after them.
-- Of [msb:lsb] the names with `last` are for the second number.
pub data Part : Type 0 where
  outside before minus digits after last_before last_minus last_digits last_after wrong : Part

-- after a number: the colon and the second number, or the bracket that closes
unfoldable pub after_number : ℕ → Part
after_number b = if eqb b 93 then outside else if eqb b 58 then last_before else wrong

-- one byte more
abbrev pub index_byte : Part → ℕ → Part
index_byte outside b = if eqb b 91 then before else wrong
index_byte before b = if eqb b 45 then minus else if is_digit b then digits else wrong
index_byte minus b = if is_digit b then digits else wrong
index_byte digits b = if is_digit b then digits else after_number b
index_byte after b = after_number b
index_byte last_before b = if eqb b 45 then last_minus else if is_digit b then last_digits else wrong
index_byte last_minus b = if is_digit b then last_digits else wrong
index_byte last_digits b = if is_digit b then last_digits else if eqb b 93 then outside else wrong
index_byte last_after b = if eqb b 93 then outside else wrong
index_byte wrong b = wrong

-- White space ends a number, and may not follow a minus.
abbrev pub word_ends : Part → Part
word_ends outside = outside
word_ends before = before
word_ends minus = wrong
word_ends digits = after
word_ends after = after
word_ends last_before = last_before
word_ends last_minus = wrong
word_ends last_digits = last_after
word_ends last_after = last_after
word_ends wrong = wrong

-- a word more
abbrev pub index_word : Part → Word → Part
index_word p [] = word_ends p
index_word p (b ∷ w) = index_word (index_byte p b) w

abbrev pub is_wrong : Part → Bool
is_wrong outside = false
is_wrong before = false
is_wrong minus = false
is_wrong digits = false
is_wrong after = false
is_wrong last_before = false
is_wrong last_minus = false
is_wrong last_digits = false
is_wrong last_after = false
is_wrong wrong = true

-- brackets are closed
abbrev pub is_outside : Part → Bool
is_outside outside = true
is_outside before = false
is_outside minus = false
is_outside digits = false
is_outside after = false
is_outside last_before = false
is_outside last_minus = false
is_outside last_digits = false
is_outside last_after = false
is_outside wrong = false

-- ---- the word of a name

-- where a name begins and how long it is in its word, and where its index stands at the end of the word
pub record Cut : Type 0 where
  pub skip : ℕ
  pub size : ℕ
  pub part : Part

abbrev pub cut_at : ℕ → ℕ → Part → Cut
cut_at s n p = record { skip = s; size = n; part = p }

-- The name has n bytes so far. It ends where all that follows in the word is an index.
abbrev pub cut : ℕ → Word → Cut
cut n [] = cut_at 0 n outside
cut n (b ∷ w) = if is_wrong (index_word outside (b ∷ w)) then cut (n + 1) w else cut_at 0 n (index_word outside (b ∷ w))

-- an escaped name: a backslash, and at least one byte more (IEEE 1364 clause 3.7.1: the backslash is not part of the name)
abbrev pub is_escaped : Word → Bool
is_escaped [] = false
is_escaped (b ∷ w) = if eqb b 92 then some w else false

-- brackets in an escaped name belong to it
abbrev pub reference : Word → Cut
reference [] = cut_at 0 0 outside
reference (b ∷ w) = if is_escaped (b ∷ w) then cut_at 1 (length w) outside else cut 1 w

-- the bytes of the name in its word
abbrev pub name_in : Cut → Word → Word
name_in c w = take c.size (drop c.skip w)

-- the name that is asked for: one backslash in front of it is dropped
abbrev pub unescaped : Word → Word
unescaped w = if is_escaped w then drop 1 w else w
