-- A word in which one edge has moved by one bit (document 01's term "moved edge"), and the nibbles that this may turn into others.
-- Assumes nothing.
use Rattle.std.specs.Prelude.{ℕ, ◌+◌, ◌*◌, ◌/◌, ◌%◌, ◌^◌, ◌<◌, ◌≡◌, ◌⊎◌}
use mathlib.Core.List.{List, [], ◌∷◌, Memᴰ}
use Rattle.dshot_reply_spec.specs.Gcr.{reply_nibble, reply_word, nibble_at}

-- bit i of a word, the lowest at 0
abbrev pub bit : ℕ → ℕ → ℕ
bit w i = w / 2 ^ i % 2

-- The edge at bit i of w moves to the free bit j beside it, which gives w'. The start edge, bit 20, does not move.
pub record Moved (w w' i j : ℕ) : Type 0 where
  pub from : i < 20
  pub to : j < 20
  pub beside : (j ≡ i + 1) ⊎ (i ≡ j + 1)
  pub edge : bit w i ≡ 1
  pub free : bit w j ≡ 0
  pub moved : w' + 2 ^ i ≡ w + 2 ^ j

-- the pairs of neighbouring nibbles that can turn, and into which: 1,9 into 8,0; 1,D into 8,4; and back
abbrev pub turn_table : List (List ℕ)
turn_table = (1 ∷ 9 ∷ 8 ∷ 0 ∷ []) ∷ (8 ∷ 0 ∷ 1 ∷ 9 ∷ []) ∷ (1 ∷ 0xd ∷ 8 ∷ 4 ∷ []) ∷ (8 ∷ 4 ∷ 1 ∷ 0xd ∷ []) ∷ []

-- The nibbles a, b turn into c, d: this is one of the rows.
abbrev pub Turns : ℕ → ℕ → ℕ → ℕ → Type 0
Turns a b c d = Memᴰ (a ∷ b ∷ c ∷ d ∷ []) turn_table

-- Two neighbouring nibbles of the word w turn into those of w'. The checksum may be one of them.
pub record Turned (w w' : ℕ) : Type 0 where
  pub place : ℕ
  pub within : place < 3
  pub row : Turns (nibble_at w (place + 1)) (nibble_at w place) (nibble_at w' (place + 1)) (nibble_at w' place)

-- the value that the nibbles of a word give
abbrev pub word_value : ℕ → ℕ
word_value w = nibble_at w 3 * 256 + nibble_at w 2 * 16 + nibble_at w 1

-- Two neighbouring nibbles of the reply of v turn into those of v', and the other two stay.
pub record TurnedValue (v v' : ℕ) : Type 0 where
  pub place : ℕ
  pub within : place < 3
  pub row : Turns (reply_nibble v (place + 1)) (reply_nibble v place) (reply_nibble v' (place + 1)) (reply_nibble v' place)
  pub others : (p : ℕ) → p < 4 → (p ≡ place → ⊥) → (p ≡ place + 1 → ⊥) → reply_nibble v' p ≡ reply_nibble v p

-- The word w' is the reply word of the value v', which the turned nibbles form.
pub record Formed (v v' w' : ℕ) : Type 0 where
  pub small : v' < 4096
  pub word : w' ≡ reply_word v'
  pub value : TurnedValue v v'
