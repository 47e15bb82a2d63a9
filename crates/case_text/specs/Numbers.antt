-- What the reader of a line finds in its bytes.
-- Assumes nothing.
use Rattle.std.specs.Prelude.{ℕ, Bool, true, false, ◌+◌, ◌-◌, ◌*◌, Option, Some, None, List, [], ◌∷◌, eqb, ltb, length, drop, if◌then◌else◌}
use Rattle.std.specs.List.{filter, slice_split}
use Rattle.std.specs.Option.{option_map}
use Rattle.case_text.specs.declared.numbers.Spaces.{Spaces}
use Rattle.case_text.specs.declared.numbers.Spaces.TheVariants.{One, Any}

-- the digit that a byte is in ASCII, if it is one
abbrev pub digit_of : ℕ → Option ℕ
digit_of b =
    if ltb b 48 then None else
    if ltb 57 b then None else
    Some (b - 48)

-- a digit before the digits after it; none if there is no digit
abbrev pub digit_before : Option ℕ → List ℕ → List ℕ
digit_before None ds = []
digit_before (Some d) ds = d ∷ ds

-- the digits at the start of bytes
abbrev pub digits : List ℕ → List ℕ
digits [] = []
digits (b ∷ bs) = digit_before (digit_of b) (digits bs)

-- the number that v and the digits after it make
abbrev pub numeral : ℕ → List ℕ → ℕ
numeral v [] = v
numeral v (d ∷ ds) = numeral (v * 10 + d) ds

-- the first number that does not fit 64 bits
abbrev pub past64 : ℕ
past64 = 18446744073709551616

-- a number that stands from one place to another, and that place; if the places are the same, none
unfoldable pub ended : ℕ → ℕ → ℕ → Option (ℕ × ℕ)
ended value from to = if eqb from to then None else Some (value, to)

-- The number of some digits that start at a place, and the place after them. If there is no digit, or the number does not fit 64 bits, there is none.
unfoldable pub number_of : List ℕ → ℕ → Option (ℕ × ℕ)
number_of ds from = if ltb (numeral 0 ds) past64 then ended (numeral 0 ds) from (from + length ds) else None

-- the number whose digits start at a place of a text
abbrev pub number_at : List ℕ → ℕ → Option (ℕ × ℕ)
number_at text from = number_of (digits (drop from text)) from

-- a number that ends at a place
abbrev pub ends_at : ℕ → Option (ℕ × ℕ) → Option ℕ
ends_at place None = None
ends_at place (Some read) = if eqb read.1 place then Some read.0 else None

-- the number that all bytes of a text make
abbrev pub whole_number : List ℕ → Option ℕ
whole_number text = ends_at (length text) (number_at text 0)

-- a number before the numbers after it; none if either is missing
abbrev pub number_before : Option ℕ → Option (List ℕ) → Option (List ℕ)
number_before None ns = None
number_before (Some n) ns = option_map (λ rest. n ∷ rest) ns

-- the numbers that words are, if each is one
abbrev pub numbers_of : List (List ℕ) → Option (List ℕ)
numbers_of [] = Some []
numbers_of (word ∷ words) = number_before (whole_number word) (numbers_of words)

-- the same; none if there are more than n
unfoldable pub numbers_within : ℕ → List (List ℕ) → Option (List ℕ)
numbers_within n words = if ltb n (length words) then None else numbers_of words

-- whether a word has a byte
abbrev pub has_byte : List ℕ → Bool
has_byte word = ltb 0 (length word)

-- the words among the parts between two spaces: all, or those that have a byte
abbrev pub words_among : Spaces → List (List ℕ) → List (List ℕ)
words_among One parts = parts
words_among Any parts = filter has_byte parts

-- the words of a line
abbrev pub words_of : Spaces → List ℕ → List (List ℕ)
words_of spaces line = words_among spaces (slice_split (λ b. eqb b 32) line)

-- the flag of a number, if it is 0 or 1
abbrev pub flag_of : ℕ → Option Bool
flag_of n =
    if eqb n 0 then Some false else
    if eqb n 1 then Some true else
    None
