-- Numbers in a dump: decimals, of any number of digits, and reals as printf writes them with %.16g.
-- Assumes nothing.
use Rattle.std.specs.Prelude.{ℕ, ◌+◌, ◌-◌, ◌*◌, ◌^◌, Bool, true, false, [], ◌∷◌, map, eqb, leb, ltb, if◌then◌else◌}
use Rattle.dshot_reply_spec.specs.Answer.{Answer, given, refused}
use Rattle.dshot_reply_spec.specs.Ascii.{ascii}
use Rattle.dshot_reply_spec.specs.Refusals.{broken_dump}
use Rattle.dump_spec.specs.Words.{Word, some, all, one_of}

-- 0 to 9
unfoldable pub is_digit : ℕ → Bool
is_digit b = if ltb b 48 then false else leb b 57

-- the number that v and the digits after it make
abbrev pub value_from : ℕ → Word → ℕ
value_from v [] = v
value_from v (b ∷ w) = value_from (v * 10 + (b - 48)) w

unfoldable pub is_number : Word → Bool
is_number w = if some w then all is_digit w else false

-- document 02: times are below 2^62
abbrev pub time_limit : ℕ
time_limit = 2 ^ 62

-- a number; every number from 2^62 on is given as 2^62
abbrev pub clipped : ℕ → ℕ
clipped n = if ltb n time_limit then n else time_limit

unfoldable pub number_of : Word → Answer ℕ
number_of w = if is_number w then given (clipped (value_from 0 w)) else refused broken_dump

-- ---- reals

unfoldable pub is_sign : ℕ → Bool
is_sign b = if eqb b 43 then true else eqb b 45

abbrev pub after_sign : Word → Word
after_sign [] = []
after_sign (b ∷ w) = if is_sign b then w else b ∷ w

-- the bytes after the digits at the front
abbrev pub after_digits : Word → Word
after_digits [] = []
after_digits (b ∷ w) = if is_digit b then after_digits w else b ∷ w

abbrev pub starts_with_digit : Word → Bool
starts_with_digit [] = false
starts_with_digit (b ∷ w) = is_digit b

-- nothing, or an exponent: e or E, a sign or none, digits
abbrev pub is_exponent : Word → Bool
is_exponent [] = true
is_exponent (b ∷ w) = if (if eqb b 101 then true else eqb b 69) then is_number (after_sign w) else false

-- what follows the first digits, if there were any (seen): a point and digits or none, and then the exponent; one digit stands before or after the point
abbrev pub is_fraction : Bool → Word → Bool
is_fraction seen [] = seen
is_fraction seen (b ∷ w) =
    if eqb b 46 then (if (if seen then true else starts_with_digit w) then is_exponent (after_digits w) else false) else
    if seen then is_exponent (b ∷ w) else false

-- a letter A to Z as a to z
unfoldable pub lower : ℕ → ℕ
lower b = if ltb b 65 then b else if leb b 90 then b + 32 else b

-- infinity or no number, as printf writes them, in any case
unfoldable pub is_special : Word → Bool
is_special w = one_of (ascii "inf" ∷ ascii "nan" ∷ []) (map lower w)

unfoldable pub is_real : Word → Bool
is_real w =
    if is_special (after_sign w) then true else
    is_fraction (starts_with_digit (after_sign w)) (after_digits (after_sign w))
