-- A writer of plain dumps: the text for one signal whose level is sampled a period apart. Theorems say that the text reads back as those levels.
-- Assumes nothing.
use Rattle.std.specs.Prelude.{ℕ, ◌+◌, ◌^◌, ◌≤◌, ◌<◌, ◌≡◌, Bool, true, false, List, [], ◌∷◌, ◌++◌, eqb, length, if◌then◌else◌}
use Rattle.dshot_reply_spec.specs.Ascii.{ascii}
use Rattle.capture_file.specs.File.{UpTo}
use Rattle.capture_file.specs.Line.{digit, decimal_within, spaced}
use Rattle.dump_spec.specs.Words.{Word, all, is_name}
use Rattle.dump_spec.specs.Names.{is_escaped}
use Rattle.dump_spec.specs.Kinds.{no_level}
use Rattle.dump_spec.specs.Dump.{max_samples}

-- a byte other than [
unfoldable pub no_bracket : ℕ → Bool
no_bracket b = if eqb b 91 then false else true

-- A name that the text declares as it stands. It is not escaped by a backslash, and it has no [, which may begin an index.
unfoldable pub is_plain : Word → Bool
is_plain name = if is_escaped name then false else if all no_bracket name then is_name name else false

-- one variable of one bit, with the code !
unfoldable pub declarations : Word → List ℕ
declarations name = ascii "$timescale 1 ns $end\n$var wire 1 ! " ++ (name ++ ascii " $end\n$enddefinitions $end\n")

-- a time, and the level from then on; 14 digits are enough for 4096 periods of 32 bits
unfoldable pub change_line : ℕ → ℕ → List ℕ
change_line t l = spaced ((ascii "#" ++ decimal_within 14 t) ∷ (digit l ∷ ascii "!") ∷ [])

-- levels from the time t on, if the level before is l: a line for each that differs from the one before it
abbrev pub change_lines : ℕ → ℕ → ℕ → List ℕ → List ℕ
change_lines period l t [] = []
change_lines period l t (m ∷ ls) = (if eqb m l then [] else change_line t m) ++ change_lines period m (t + period) ls

-- The text: sample k is taken at k × period. No level stands before the first, so the first always has a line.
unfoldable pub dump_of : Word → ℕ → List ℕ → List ℕ
dump_of name period ls = declarations name ++ change_lines period no_level 0 ls

-- What a dump can hold: at most 4096 samples, each at level 0 or 1, with a period from 1 to 2^32 - 1, under a plain name.
pub record Writable (name : Word) (period : ℕ) (ls : List ℕ) : Type 0 where
  pub named : is_plain name ≡ true
  pub apart : 0 < period
  pub bounded : period < 2 ^ 32
  pub count : length ls ≤ max_samples
  pub levels : UpTo 1 ls
