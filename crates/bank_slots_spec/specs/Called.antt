-- What an exported call of a bank answers, and what it does to the slots that it is lent. It takes one step of the bank in the slots, or it refuses.
-- Added: document 01 asks for calls from C.
-- Assumes nothing.
use Rattle.std.specs.Prelude.{ℕ, ◌≡◌, Bool, false, List, eqb, length, if◌then◌else◌}
use Rattle.dshot_reply_spec.specs.Refusals.{wrong_length}
use Rattle.dshot_bank_spec.specs.State.{Bank, Buffers}
use Rattle.dshot_bank_spec.specs.Calls.{Call, Answer, done, refused, motor_sent, serviced, interrupted, replied, flag, counts, values, reply_counts, slots, State}
use Rattle.dshot_bank_spec.specs.Steps.{step}
use Rattle.bank_slots_spec.specs.Load.{load}
use Rattle.bank_slots_spec.specs.Places as Places
use Rattle.bank_slots_spec.specs.Written.{Written}

-- whether a slice has n slots
abbrev pub sized : ℕ → List ℕ → Bool
sized n xs = eqb (length xs) n

-- whether the state has 97 slots, and the other slices have the right lengths too
abbrev pub fit : List ℕ → Bool → Bool
fit xs others = if sized Places.slots xs then others else false

-- the bank that the slots hold, with the two lent buffers
abbrev pub state_at : List ℕ → Buffers → State
state_at xs b = record { bank = load xs; buffers = b }

-- the number of a refusal; 0 for any other answer
abbrev pub number : Answer → ℕ
number done = 0
number (refused n) = n
number (motor_sent m) = 0
number (serviced e o s) = 0
number (interrupted e o) = 0
number (replied r) = 0
number (flag b) = 0
number (counts s) = 0
number (values v) = 0
number (reply_counts r) = 0
number (slots l) = 0

-- The answer of the step. If a slice has the wrong length, the answer is 13 (wrong length), before all else.
unfoldable pub answer_of : Bool → State → Call → Answer
answer_of fits s call = if fits then (step 4 s call).answer else refused wrong_length

-- the bank that the slots hold after a call
unfoldable pub bank_after : Bool → State → Call → Bank
bank_after fits s call = if fits then (step 4 s call).state.bank else s.bank

-- the lent buffers after a call
unfoldable pub buffers_after : Bool → State → Call → Buffers
buffers_after fits s call = if fits then (step 4 s call).state.buffers else s.buffers

-- What a call on the slots promises, whatever they held: what it returns, and which bank the slots hold after it. A refusal leaves the slots as they
-- were. If the library wrote the slots before, they are still such as it writes.
pub record Called (fits : Bool) (call : Call) (b : Buffers) (before after : List ℕ) (r : ℕ) : Type 0 where
  pub answer : r ≡ number (answer_of fits (state_at before b) call)
  pub bank : load after ≡ bank_after fits (state_at before b) call
  pub stays : (r ≡ 0 → ⊥) → after ≡ before
  pub written : Written before → Written after
