-- The GCR code of a reply: a symbol of five bits for each of the sixteen nibbles. A value is sent as a word of four symbols. The word decodes to the
-- value again.
-- Stands for `decode_gcr` and `reply_transitions_for` of crates/ferrowasp-output/src/dshot_reply.rs (Eirik2020/ferro-wasp, commit 9cb8aca1a6,
-- Copyright (c) 2026 Kaldstrand, Apache-2.0), changed: rewritten as a definition.
-- Assumes nothing.
use Rattle.std.specs.Prelude.{ℕ, zero, suc, ◌+◌, ◌*◌, ◌/◌, ◌%◌, ◌^◌, List, [], ◌∷◌, eqb, get_or, if◌then◌else◌}
use Rattle.std.specs.Int.Bits.{bit_xor}
use Rattle.dshot_reply_spec.specs.Answer.{Answer, given, refused}
use Rattle.dshot_reply_spec.specs.Refusals.{invalid_symbol, wrong_checksum}

-- the symbols of the nibbles 0 to F
abbrev pub symbols : List ℕ
symbols = 0x19 ∷ 0x1b ∷ 0x12 ∷ 0x13 ∷ 0x1d ∷ 0x15 ∷ 0x16 ∷ 0x17 ∷ 0x1a ∷ 0x09 ∷ 0x0a ∷ 0x0b ∷ 0x1e ∷ 0x0d ∷ 0x0e ∷ 0x0f ∷ []

-- the symbol of one nibble
abbrev pub symbol_of : ℕ → ℕ
symbol_of n = get_or symbols n 0

-- the place of x in a list, counted from i; 255 if x is not in it
abbrev pub place_of : ℕ → ℕ → List ℕ → ℕ
place_of x i [] = 255
place_of x i (y ∷ ys) = if eqb x y then i else place_of x (suc i) ys

-- the nibble of the symbol s; 255 if s is no symbol
unfoldable pub nibble_of : ℕ → ℕ
nibble_of s = place_of s 0 symbols

-- ---- the reply word of a value

-- the checksum of a value: with it, the exclusive or of the four nibbles is 0xF
abbrev pub checksum : ℕ → ℕ
checksum v = bit_xor (bit_xor (bit_xor (v / 256 % 16) (v / 16 % 16)) (v % 16)) 15

-- the nibble at a place of a reply: the value's nibbles at places 3 to 1, the highest at 3, and the checksum at 0
abbrev pub reply_nibble : ℕ → ℕ → ℕ
reply_nibble v zero = checksum v
reply_nibble v (suc zero) = v % 16
reply_nibble v (suc (suc zero)) = v / 16 % 16
reply_nibble v (suc (suc (suc p))) = v / 256 % 16

-- the word of four symbols, the highest first, after the 1 of the start edge
unfoldable pub word_of : ℕ → ℕ → ℕ → ℕ → ℕ
word_of a b c d = (((32 + a) * 32 + b) * 32 + c) * 32 + d

-- the word that is sent for a value; only the value's lowest twelve bits count
unfoldable pub reply_word : ℕ → ℕ
reply_word v = word_of (symbol_of (reply_nibble v 3)) (symbol_of (reply_nibble v 2)) (symbol_of (reply_nibble v 1)) (symbol_of (reply_nibble v 0))

-- ---- what a word decodes to

-- the five bits at place p of a word, the lowest at place 0
unfoldable pub symbol_at : ℕ → ℕ → ℕ
symbol_at w p = w / 2 ^ (5 * p) % 32

-- the nibble at place p of a word, or 255; places 3 to 1 hold the value, place 0 the checksum
abbrev pub nibble_at : ℕ → ℕ → ℕ
nibble_at w p = nibble_of (symbol_at w p)

-- the value of four nibbles, the highest first. A nibble of 255 stands for a bad symbol. A bad symbol is refused before a wrong checksum.
unfoldable pub from_nibbles : ℕ → ℕ → ℕ → ℕ → Answer ℕ
from_nibbles a b c d =
    if eqb a 255 then refused invalid_symbol else
    if eqb b 255 then refused invalid_symbol else
    if eqb c 255 then refused invalid_symbol else
    if eqb d 255 then refused invalid_symbol else
    if eqb (bit_xor (bit_xor (bit_xor a b) c) d) 15 then given (a * 256 + b * 16 + c) else
    refused wrong_checksum

-- the value of a word, or its refusal; only the word's lowest twenty bits count
unfoldable pub decode_word : ℕ → Answer ℕ
decode_word w = from_nibbles (nibble_at w 3) (nibble_at w 2) (nibble_at w 1) (nibble_at w 0)
