-- A dump of five samples, written by computing.
-- Assumes nothing.
use mathlib.Core.Path.{◌≡◌, refl, sym, ap, ◌∙◌}
use mathlib.Core.List.{List, [], ◌∷◌}
use Prim.Native.Nat.{ℕ}
use lib.Dec.{lit≤, lit<}
use Rattle.dshot_reply_spec.specs.Answer.{given}
use Rattle.dshot_reply_spec.specs.Ascii.{ascii}
use Rattle.capture_file.specs.Line.{digit, decimal_within}
use Rattle.dump_spec.specs.Words.{is_printable, is_code, is_end, is_name}
use Rattle.dump_spec.specs.Dump.{asked, read_dump}
use Rattle.dump_written.specs.Written.{no_bracket, is_plain, Writable, declarations, change_line, dump_of}
use Rattle.dump_written.proofs.Theorems.{written-reads}

abbrev levels : List ℕ
levels = 1 ∷ 1 ∷ 0 ∷ 0 ∷ 1 ∷ []

abbrev text : List ℕ
text = ascii "$timescale 1 ns $end\n$var wire 1 ! line $end\n$enddefinitions $end\n#0 1!\n#888 0!\n#1776 1!\n"

-- a third of a bit of a reply at DShot600 is 444 ns
pub text-written : dump_of (ascii "line") 444 levels ≡ text
unfolding dump_of declarations change_line digit decimal_within
text-written = refl

-- a level that never changes has one line
pub one_line : dump_of (ascii "d0") 1 (0 ∷ 0 ∷ []) ≡ ascii "$timescale 1 ns $end\n$var wire 1 ! d0 $end\n$enddefinitions $end\n#0 0!\n"
unfolding dump_of declarations change_line digit decimal_within
one_line = refl

-- no sample, no line
pub no_line : dump_of (ascii "line") 1 [] ≡ ascii "$timescale 1 ns $end\n$var wire 1 ! line $end\n$enddefinitions $end\n"
unfolding dump_of declarations
no_line = refl

pub text-writable : Writable (ascii "line") 444 levels
unfolding is_plain no_bracket is_name is_end is_code is_printable
text-writable = record {
  named = refl;
  apart = lit< tt;
  bounded = lit< tt;
  count = lit≤ tt;
  levels = (lit≤ tt, (lit≤ tt, (lit≤ tt, (lit≤ tt, (lit≤ tt, tt)))));
}

pub text-reads : read_dump text (ascii "line") (asked 0 444 5) ≡ given levels
text-reads = ap (λ s. read_dump s (ascii "line") (asked 0 444 5)) (sym text-written) ∙ written-reads (ascii "line") 444 levels text-writable
