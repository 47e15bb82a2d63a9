-- The rule of each of the two tables, from one test over all its entries.
-- Assumes nothing.
use mathlib.Core.Bool.{Bool}
use mathlib.Core.List.{List}
use Prim.Native.Nat.{ℕ}
use lib.Dec.{T, eqb, eqb→eq}
use lib.ListN.{get_or}
use Rattle.dshot_reply_spec.proofs.GcrLaws.{symbol-lt}
use Rattle.dshot_reply_spec.proofs.Table.{at, below}
use Rattle.dshot_reply_spec.proofs.XorLaws.{nibble-xor}
use Rattle.dshot_reply_spec.specs.Gcr.{nibble_of, symbol_of}
use Rattle.dshot_reply.specs.Steps.{Decodes, Encodes}

-- the symbol of a nibble
abbrev pub encode_test : List ℕ → ℕ → Bool
encode_test table n = eqb (get_or table n 0) (symbol_of n)

pub encode_rule : (table : List ℕ) → T (below (encode_test table) 16) → Encodes table
encode_rule table t = record {
  entry = λ n h. let e = eqb→eq (get_or table n 0) (symbol_of n) (at (encode_test table) 16 t n h) in (e, rw e (symbol-lt n h));
}

-- for the goals of `reply_transitions_for`
pub ruleset encode_cases = (encode_rule, nibble-xor)

-- the nibble of a symbol, and 255 for five bits that are none
abbrev pub decode_test : List ℕ → ℕ → Bool
decode_test table s = eqb (get_or table s 0) (nibble_of s)

pub decode_rule : (table : List ℕ) → T (below (decode_test table) 32) → Decodes table
decode_rule table t = record { entry = λ s h. eqb→eq (get_or table s 0) (nibble_of s) (at (decode_test table) 32 t s h) }
