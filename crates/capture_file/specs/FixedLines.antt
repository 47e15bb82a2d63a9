-- Lines of the bench in a table: document 01's own first, then each kind, and refusals.
-- Assumes nothing.
use Rattle.std.specs.Prelude.{ℕ, Bool, true, false, List, [], ◌∷◌, map}
use Prim.Native.String.{String}
use Rattle.dshot_reply_spec.specs.Answer.{Answer, refused}
use Rattle.dshot_reply_spec.specs.Gcr.{reply_word}
use Rattle.capture_file.specs.Line.{Listed, listed_word, line_of, ascii}

-- a row: what the line says of a capture, or the capture's refusal, and the line
pub record Row : Type 0 where
  pub told : Answer Listed
  pub line : String

-- the reply word of a value, with EDT off or on
abbrev word : ℕ → Bool → String → Row
word v extended line = record { told = listed_word (reply_word v) extended; line = line }

-- a refusal by another layer, with its number
abbrev number : ℕ → String → Row
number n line = record { told = refused n; line = line }

abbrev pub fixed_lines : List Row
fixed_lines =
    word 0xfff false "17bdf9 fff erpm 0\n"
    ∷ word 0x001 false "1ce76e 001 erpm 600000\n"
    ∷ word 0x219 true "196d35 219 temp 25\n"
    ∷ word 0x440 true "1ef72f 440 volt 64\n"
    ∷ word 0x60a true "1b6553 60a amp 10\n"
    ∷ word 0x801 true "1d6776 801 debug1 1\n"
    ∷ word 0xa80 true "156b2d a80 debug2 128\n"
    ∷ word 0xcff true "1f3df3 cff debug3 255\n"
    ∷ word 0xe05 true "1766bd e05 state 5\n"
    ∷ word 0xe00 false "17673b e00 edt 0\n"
    ∷ word 0x000 false "refused 11\n"
    ∷ number 7 "refused 7\n"
    ∷ number 17 "refused 17\n"
    ∷ []

-- the lines that the rows give, and those in the table
abbrev pub told_lines : List (List ℕ)
told_lines = map (λ (r : Row). line_of r.told) fixed_lines

abbrev pub table_lines : List (List ℕ)
table_lines = map (λ (r : Row). ascii r.line) fixed_lines
