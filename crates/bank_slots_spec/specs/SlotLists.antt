-- Lists of exported calls of a bank on one state slice and two lent buffers. "Alike" is document 01's term.
-- Assumes nothing.
use Rattle.std.specs.Prelude.{ℕ, ◌≡◌, Bool, List, [], ◌∷◌, length, if◌then◌else◌}
use Rattle.dshot_reply_spec.specs.Refusals.{wrong_length}
use Rattle.dshot_bank_spec.specs.State.{Buffers}
use Rattle.dshot_bank_spec.specs.Calls.{Call, refused, State, Stepped, told}
use Rattle.dshot_bank_spec.specs.Steps.{step}
use Rattle.dshot_bank_spec.specs.Lists.{is_look}
use Rattle.dshot_bank_spec.specs.Hide.{Alike, WireAlike}
use Rattle.bank_slots_spec.specs.Storable.{Below}
use Rattle.bank_slots_spec.specs.Called.{Called, number, state_at, answer_of, buffers_after}
use Rattle.bank_slots_spec.specs.Outs.{out_after}

-- A call from C. `fits` says whether the slices for the state, the arguments and the answer have the right lengths. `call` is the bank's call. `out`
-- is what the slots for the answer hold before it; if the call asks for none, it is empty.
pub record Made : Type 0 where
  pub fits : Bool
  pub call : Call
  pub out : List ℕ

-- what such a call answers and leaves: a step of the bank; if a slice does not fit, 13 (wrong length)
abbrev pub made : State → Made → Stepped
made s m = if m.fits then step 4 s m.call else told s (refused wrong_length)

-- the trace of a list: each call's answer, with the state that it left
abbrev pub made_trace : State → List Made → List Stepped
made_trace s [] = []
made_trace s (m ∷ ms) = made s m ∷ made_trace (made s m).state ms

-- the state after a list
abbrev pub made_run : State → List Made → State
made_run s [] = s
made_run s (m ∷ ms) = made_run (made s m).state ms

-- What a call shows to a host: the number that it returns, the slots of its answer, and the state. The state is the bank in the slots, and the
-- buffers.
pub record Shown : Type 0 where
  pub returned : ℕ
  pub answer : List ℕ
  pub state : State

abbrev pub shown_by : Made → Stepped → Shown
shown_by m r = record { returned = number r.answer; answer = out_after r.answer m.out; state = r.state }

abbrev pub shown_all : List Made → List Stepped → List Shown
shown_all [] rs = []
shown_all (m ∷ ms) [] = []
shown_all (m ∷ ms) (r ∷ rs) = shown_by m r ∷ shown_all ms rs

-- A list of exported calls that ran. Each call did as it promises, on the slots and buffers that the call before it left, and showed something. A
-- slice keeps its length, and its slots keep their sixteen bits.
pub data Ran : List ℕ → Buffers → List Made → List Shown → Type 0 where
  none_left : {xs : List ℕ} {b : Buffers} → Ran xs b [] []
  one_more : {xs ys out : List ℕ} {b b' : Buffers} {m : Made} {ms : List Made} {r : ℕ} {rest : List Shown}
      → Called m.fits m.call b xs ys r
      → b' ≡ buffers_after m.fits (state_at xs b) m.call
      → out ≡ out_after (answer_of m.fits (state_at xs b) m.call) m.out
      → length ys ≡ length xs
      → Below ys
      → Ran ys b' ms rest
      → Ran xs b (m ∷ ms) (record { returned = r; answer = out; state = state_at ys b' } ∷ rest)

-- the slots that each call left
abbrev pub leaves : {xs : List ℕ} {b : Buffers} {ms : List Made} {rs : List Shown} → Ran xs b ms rs → List (List ℕ)
leaves none_left = []
leaves (one_more {ys = ys} c e o n w rest) = ys ∷ leaves rest

-- ---- parts of a list

-- the bank's calls in a list, which are those whose slices fit, and their part of a trace
abbrev pub fitting : List Made → List Call
fitting [] = []
fitting (m ∷ ms) = if m.fits then m.call ∷ fitting ms else fitting ms

abbrev pub fitting_of : List Made → List Stepped → List Stepped
fitting_of [] rs = []
fitting_of (m ∷ ms) [] = []
fitting_of (m ∷ ms) (r ∷ rs) = if m.fits then r ∷ fitting_of ms rs else fitting_of ms rs

-- a list without its calls that only look, and what is left of its trace
abbrev pub acting_made : List Made → List Made
acting_made [] = []
acting_made (m ∷ ms) = if is_look m.call then acting_made ms else m ∷ acting_made ms

abbrev pub acting_made_of : List Made → List Stepped → List Stepped
acting_made_of [] rs = []
acting_made_of (m ∷ ms) [] = []
acting_made_of (m ∷ ms) (r ∷ rs) = if is_look m.call then acting_made_of ms rs else r ∷ acting_made_of ms rs

-- ---- lists that are alike

-- Two lists of the same length. Their bank's calls are related call by call, and all else is the same.
pub data MadeByMade (R : Call → Call → Type 0) : List Made → List Made → Type 0 where
  both_end : MadeByMade R [] []
  both_more : {fits : Bool} {out : List ℕ} {c c' : Call} {ms ms' : List Made} → R c c' → MadeByMade R ms ms'
      → MadeByMade R (record { fits = fits; call = c; out = out } ∷ ms) (record { fits = fits; call = c'; out = out } ∷ ms')

-- two lists that differ only in one lane's captures
abbrev pub MadeAlike : ℕ → List Made → List Made → Type 0
MadeAlike lane = MadeByMade (Alike lane)

-- two lists that may also differ in whether that lane has a capture
abbrev pub MadeWireAlike : ℕ → List Made → List Made → Type 0
MadeWireAlike lane = MadeByMade (WireAlike lane)
