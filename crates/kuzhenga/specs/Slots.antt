-- How an exported call puts an answer into the slots that it is lent. Added: document 01 asks for calls from C.
-- Assumes nothing.
use Rattle.std.specs.Prelude.{ℕ, ◌/◌, ◌%◌, List, [], ◌∷◌, eqb, length, if◌then◌else◌}
use Rattle.dshot_reply_spec.specs.Answer.{Answer, refused}
use Rattle.dshot_reply_spec.specs.Refusals.{wrong_length}
use Rattle.dshot_reply_spec.specs.Kind.{kind_number, reading_number}
use Rattle.dshot_reply_spec.specs.Value.{Reading}
use Rattle.dshot_reply_spec.specs.ValuePeriod.{Period}

-- The answer of a call that asks for n slots. If the call is lent another number of slots, it refuses with 13 (wrong length) before all else.
unfoldable pub asked : {A : Type 0} → ℕ → List ℕ → Answer A → Answer A
asked n out a = if eqb (length out) n then a else refused wrong_length

-- a number of 16 bits in one slot
abbrev pub one : ℕ → List ℕ
one n = n ∷ []

-- a number of 32 bits in two slots, the lowest bits first
abbrev pub halves : ℕ → List ℕ
halves n = n % 65536 ∷ n / 65536 ∷ []

-- a reading in three slots: its kind in one, and its number in two
abbrev pub reading_slots : Reading → List ℕ
reading_slots r = kind_number r ∷ halves (reading_number r)

-- the period of a value in two slots: its microseconds and its step
abbrev pub period_slots : Period → List ℕ
period_slots q = q.microseconds ∷ q.step ∷ []
