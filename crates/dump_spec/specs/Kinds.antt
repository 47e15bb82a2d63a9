-- What a word of a dump is by itself, wherever it stands (IEEE 1364 clause 18).
-- Assumes nothing.
use Rattle.std.specs.Prelude.{ℕ, zero, suc, ◌*◌, ◌^◌, Bool, true, false, List, [], ◌∷◌, map, eqb, ltb, if◌then◌else◌}
use Prim.Native.String.{String}
use Rattle.dshot_reply_spec.specs.Answer.{Answer, given, refused}
use Rattle.dshot_reply_spec.specs.Ascii.{ascii}
use Rattle.dump_spec.specs.Causes.{unknown_keyword, wrong_time, wrong_scalar, wrong_vector, wrong_real, unknown_word}
use Rattle.dump_spec.specs.Words.{Word, same, some, all, is_code}
use Rattle.dump_spec.specs.Numbers.{time_limit, number_of, is_real}

abbrev pub scope_types : List Word
scope_types = map ascii ("begin" ∷ "fork" ∷ "function" ∷ "module" ∷ "task" ∷ [])

abbrev pub var_types : List Word
var_types =
    map ascii
    ("event" ∷ "integer" ∷ "parameter" ∷ "real" ∷ "realtime" ∷ "reg" ∷ "supply0" ∷ "supply1" ∷ "time" ∷ "tri" ∷ "triand" ∷ "trior" ∷ "trireg" ∷ "tri0"
    ∷ "tri1" ∷ "wand" ∷ "wire" ∷ "wor" ∷ [])

-- ---- the timescale

-- what a word of the timescale says: a number, or a unit of time in femtoseconds
pub data Scale : Type 0 where
  number : ℕ → Scale
  unit : ℕ → Scale
  wrong : Scale

pub record Unit : Type 0 where
  pub name : Word
  pub femtoseconds : ℕ

abbrev unit_of : String → ℕ → Unit
unit_of s n = record { name = ascii s; femtoseconds = n }

abbrev pub units : List Unit
units = unit_of "s" (10 ^ 15) ∷ unit_of "ms" (10 ^ 12) ∷ unit_of "us" (10 ^ 9) ∷ unit_of "ns" (10 ^ 6) ∷ unit_of "ps" (10 ^ 3) ∷ unit_of "fs" 1 ∷ []

-- n times the unit that a word names
abbrev pub unit_in : List Unit → ℕ → Word → Scale
unit_in [] n w = wrong
unit_in (u ∷ us) n w = if same w u.name then unit (n * u.femtoseconds) else unit_in us n w

-- up to z zeros more, and then the unit or nothing
abbrev pub scaled : ℕ → ℕ → Word → Scale
scaled z n [] = number n
scaled zero n (b ∷ w) = unit_in units n (b ∷ w)
scaled (suc z) n (b ∷ w) = if eqb b 48 then scaled z (n * 10) w else unit_in units n (b ∷ w)

-- 1, 10 or 100, and perhaps the unit
abbrev pub scale_of : Word → Scale
scale_of [] = wrong
scale_of (b ∷ w) = if eqb b 49 then scaled 2 1 w else wrong

-- ---- changes

-- 0 1 x X z Z
unfoldable pub is_value : ℕ → Bool
is_value b =
    if eqb b 48 then true else if eqb b 49 then true else if eqb b 120 then true else if eqb b 88 then true else if eqb b 122 then true else eqb b 90

-- a level is 0, 1, or 2 for none
abbrev pub no_level : ℕ
no_level = 2

-- x and z are no level
unfoldable pub level_of : ℕ → ℕ
level_of b = if eqb b 48 then 0 else if eqb b 49 then 1 else no_level

-- `b` or `B`, then values
unfoldable pub is_b : ℕ → Bool
is_b b = if eqb b 98 then true else eqb b 66

unfoldable pub is_digits : Word → Bool
is_digits w = if some w then all is_value w else false

-- `r` or `R`, then a number
unfoldable pub is_r : ℕ → Bool
is_r b = if eqb b 114 then true else eqb b 82

-- ---- all words

-- `note` is `$date` or `$version`, `block` one of `$dumpall $dumpoff $dumpon $dumpvars`, and `real` or `vector` the first word of such a change
pub data Kind : Type 0 where
  comment note timescale scope upscope var enddefinitions block vector real other : Kind
  time : ℕ → Kind
  change : ℕ → Word → Kind

pub record Keyword : Type 0 where
  pub word : Word
  pub kind : Kind

abbrev key : String → Kind → Keyword
key s k = record { word = ascii s; kind = k }

abbrev pub keywords : List Keyword
keywords =
    key "$comment" comment
    ∷ key "$date" note
    ∷ key "$version" note
    ∷ key "$timescale" timescale
    ∷ key "$scope" scope
    ∷ key "$upscope" upscope
    ∷ key "$var" var
    ∷ key "$enddefinitions" enddefinitions
    ∷ key "$dumpall" block
    ∷ key "$dumpoff" block
    ∷ key "$dumpon" block
    ∷ key "$dumpvars" block
    ∷ []

abbrev pub keyword_of : List Keyword → Word → Kind
keyword_of [] w = other
keyword_of (k ∷ ks) w = if same w k.word then k.kind else keyword_of ks w

-- a time is below 2^62
abbrev pub time_kind : Answer ℕ → Kind
time_kind (given t) = if ltb t time_limit then time t else other
time_kind (refused n) = other

-- `$…` is a keyword, `#…` a time, a value and a code a scalar change; a word that begins so and goes on otherwise is none of these
unfoldable pub kind_of : Word → Kind
kind_of [] = other
kind_of (b ∷ w) =
    if eqb b 36 then keyword_of keywords (b ∷ w) else
    if eqb b 35 then time_kind (number_of w) else
    if is_value b then (if is_code w then change (level_of b) w else other) else
    if is_b b then (if is_digits w then vector else other) else
    if is_r b then (if is_real w then real else other) else
    other

-- why a word that is none of these is refused among times and changes
unfoldable pub wrong_word : Word → ℕ
wrong_word [] = unknown_word
wrong_word (b ∷ w) =
    if eqb b 36 then unknown_keyword else
    if eqb b 35 then wrong_time else
    if is_value b then wrong_scalar else
    if is_b b then wrong_vector else
    if is_r b then wrong_real else
    unknown_word
