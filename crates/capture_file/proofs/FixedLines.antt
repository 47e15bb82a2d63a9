-- Each line of the table is what its capture's word prints, byte for byte.
-- Assumes nothing.
use mathlib.Core.Path.{◌≡◌, refl}
use Rattle.dshot_reply_spec.specs.Gcr.{reply_word, word_of, decode_word, from_nibbles, nibble_of, symbol_at}
use Rattle.dshot_reply_spec.specs.Kind.{debug_kind}
use Rattle.dshot_reply_spec.specs.Value.{reply_of, speed_value, speed_of, reading_of}
use Rattle.capture_file.specs.FixedLines.{told_lines, table_lines}
use Rattle.capture_file.specs.Line.{listed_value, listed_word, digit, hexadecimal, decimal_within, kind_text, line_of}

pub fixed-lines : told_lines ≡ table_lines
unfolding reply_word word_of decode_word from_nibbles nibble_of symbol_at debug_kind reply_of speed_value speed_of reading_of listed_value listed_word digit hexadecimal decimal_within kind_text line_of
fixed-lines = refl
