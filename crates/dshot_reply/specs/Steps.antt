-- What the steps of the reader and of the simulated ESC do. Only the contracts of private functions cite these; no public promise does.
-- Assumes nothing.
use Rattle.std.specs.Prelude.{ℕ, suc, ◌+◌, ◌-◌, ◌*◌, ◌^◌, ◌<◌, ◌≡◌, Bool, List, [], ◌∷◌, eqb, ltb, get_or, if◌then◌else◌}
use Rattle.std.specs.Bool.{beq}
use Rattle.dshot_reply_spec.specs.Answer.{Answer, given, refused}
use Rattle.dshot_reply_spec.specs.Refusals.{no_reply, no_mask, wrong_length}
use Rattle.dshot_reply_spec.specs.Gcr.{symbol_of, nibble_of}
use Rattle.dshot_reply_spec.specs.Runs.{REPLY_BITS, MIN_EDGE_BITS, MAX_REPLY_SAMPLES}

-- The table has the symbol of each nibble.
pub record Encodes (table : List ℕ) : Type 0 where
  pub entry : (n : ℕ) → n < 16 → (get_or table n 0 ≡ symbol_of n) × (get_or table n 0 < 32)

-- The table has the nibble of each symbol, and 255 for each code of five bits that is no symbol.
pub record Decodes (table : List ℕ) : Type 0 where
  pub entry : (s : ℕ) → s < 32 → get_or table s 0 ≡ nibble_of s

-- how many levels from the first on are l
abbrev pub same_for : Bool → List Bool → ℕ
same_for l [] = 0
same_for l (b ∷ bs) = if beq b l then suc (same_for l bs) else 0

-- the answer at the end of reading, if the finished runs have `bits` bits and give the word w
unfoldable pub closed : ℕ → ℕ → Answer ℕ
closed bits w =
    if ltb bits MIN_EDGE_BITS then refused no_reply else
    if ltb bits REPLY_BITS then given (w * 2 ^ (REPLY_BITS - bits) + 2 ^ (REPLY_BITS - bits - 1)) else
    given w

-- the simulated ESC's refusal of a buffer of n samples, a lead and a mask, at s samples a bit; else 0
unfoldable pub simulated_refusal : ℕ → ℕ → ℕ → ℕ → ℕ
simulated_refusal s n lead mask =
    if ltb n (lead + MAX_REPLY_SAMPLES s) then wrong_length else
    if eqb mask 0 then no_mask else
    0
