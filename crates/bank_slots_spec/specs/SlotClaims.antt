-- Demand 3's claims about lists of calls, here for exported calls on one state slice.
-- Assumes nothing.
use Rattle.std.specs.Prelude.{ℕ, ◌+◌, ◌*◌, ◌%◌, ◌<◌, ◌≤◌, ◌≡◌, Bool, true, false, List, [], ◌∷◌, ◌++◌, map, length, get_or}
use Rattle.dshot_spec.specs.Timing.{Timing}
use Rattle.dshot_bank_spec.specs.State.{Bank, Buffers}
use Rattle.dshot_bank_spec.specs.Commands.{from_lanes}
use Rattle.dshot_bank_spec.specs.Calls.{enable_bidirectional_call, service_call, Answer, done, refused, motor_sent, serviced, interrupted, replied, flag, counts, values, reply_counts, slots, State, Stepped}
use Rattle.dshot_bank_spec.specs.Lists.{run, trace, fresh}
use Rattle.dshot_bank_spec.specs.Hide.{hide}
use Rattle.dshot_bank_spec.specs.Claims.{fits, reads, before, served, Stored, Decoded}
use Rattle.bank_slots_spec.specs.Memory.{at}
use Rattle.bank_slots_spec.specs.Places.{REPLIES}
use Rattle.bank_slots_spec.specs.Load.{load}
use Rattle.bank_slots_spec.specs.Store.{store}
use Rattle.bank_slots_spec.specs.Storable.{Storable}
use Rattle.bank_slots_spec.specs.Called.{Called, state_at}
use Rattle.bank_slots_spec.specs.SlotLists.{Made, made, made_trace, made_run, Shown, shown_all, Ran, leaves, fitting, fitting_of, acting_made, acting_made_of, MadeAlike, MadeWireAlike}

-- ---- the slots that say something of one lane's replies

-- i is one of the n slots from k on
abbrev pub Within : ℕ → ℕ → ℕ → Type 0
Within k n i = (k ≤ i) × (i < k + n)

-- The slots of an answer that say something of the lane. They are its four slots among the replies that are taken, and its two slots of each reply
-- count.
abbrev pub Tells : ℕ → Answer → ℕ → Type 0
Tells lane done i = ⊥
Tells lane (refused number) i = ⊥
Tells lane (motor_sent m) i = ⊥
Tells lane (serviced e o s) i = ⊥
Tells lane (interrupted e o) i = ⊥
Tells lane (replied r) i = Within (1 + 4 * lane) 4 i
Tells lane (flag b) i = ⊥
Tells lane (counts s) i = ⊥
Tells lane (values v) i = ⊥
Tells lane (reply_counts r) i = Within (2 * lane) 2 (i % 8)
Tells lane (slots l) i = ⊥

-- the slots of a state that say something of the lane: the lane's nine
abbrev pub TellsSlot : ℕ → ℕ → Type 0
TellsSlot lane i = Within (REPLIES + 9 * lane) 9 i

-- Two lists of what calls showed, and the answers of the calls. Each call returned the same number, left the same buffers and has as many slots in
-- its answer. Every slot that says nothing of the lane is the same.
pub data SameShown (lane : ℕ) : List Stepped → List Shown → List Shown → Type 0 where
  none_shown : SameShown lane [] [] []
  one_shown : {t : Stepped} {r q : Shown} {ts : List Stepped} {rs qs : List Shown}
      → r.returned ≡ q.returned
      → r.state.buffers ≡ q.state.buffers
      → length r.answer ≡ length q.answer
      → ((i : ℕ) → (Tells lane t.answer i → ⊥) → at r.answer i ≡ at q.answer i)
      → SameShown lane ts rs qs → SameShown lane (t ∷ ts) (r ∷ rs) (q ∷ qs)

-- Two lists of states in slots. Each state has as many slots, and every slot except the lane's nine is the same.
pub data SameSlots (lane : ℕ) : List (List ℕ) → List (List ℕ) → Type 0 where
  no_state : SameSlots lane [] []
  one_state : {xs ys : List ℕ} {xss yss : List (List ℕ)} → length xs ≡ length ys → ((i : ℕ) → (TellsSlot lane i → ⊥) → at xs i ≡ at ys i)
      → SameSlots lane xss yss → SameSlots lane (xs ∷ xss) (ys ∷ yss)

-- ---- what holds whatever the slots held at the start

pub record SlotsIsolated : Type 0 where
  -- Each call shows what the bank's own call answers and leaves: the number that it returns, the slots of its answer, and the state.
  pub traced : {xs : List ℕ} {b : Buffers} {ms : List Made} {rs : List Shown} → Ran xs b ms rs → rs ≡ shown_all ms (made_trace (state_at xs b) ms)
  -- The calls whose slices fit are a list of the bank's calls. So the claims about lists from any state hold of them. If the slots hold a new bank
  -- (`begins`), those about lists from a new bank hold too. The other calls are refused and change nothing.
  pub fitted : (s : State) (ms : List Made) → fitting_of ms (made_trace s ms) ≡ trace 4 s (fitting ms)
  pub left : (s : State) (ms : List Made) → made_run s ms ≡ run 4 s (fitting ms)
  -- Calls that only look change nothing, wherever they stand.
  pub looks : (s : State) (ms : List Made) → made_trace s (acting_made ms) ≡ acting_made_of ms (made_trace s ms)
  -- Two lists differ only in one lane's captures, and start from slots that hold the same bank. After each call they have the same answer, bank and
  -- buffers, with that lane's reply and reply counts hidden.
  pub captures : (lane : ℕ) (xs xs' : List ℕ) (b : Buffers) {ms ms' : List Made} → load xs ≡ load xs' → MadeAlike lane ms ms'
      → map (hide lane) (made_trace (state_at xs b) ms) ≡ map (hide lane) (made_trace (state_at xs' b) ms')
  -- They also return the same number and show the same slots, except those that say something of that lane.
  pub shown : (lane : ℕ) {xs xs' : List ℕ} {b : Buffers} {ms ms' : List Made} {rs rs' : List Shown} → load xs ≡ load xs' → MadeAlike lane ms ms'
      → Ran xs b ms rs → Ran xs' b ms' rs' → SameShown lane (made_trace (state_at xs b) ms) rs rs'
  -- Both hold if the lists may also differ in whether that lane has a capture. This is more than document 01 asks.
  pub wires : (lane : ℕ) (xs xs' : List ℕ) (b : Buffers) {ms ms' : List Made} → load xs ≡ load xs' → MadeWireAlike lane ms ms'
      → map (hide lane) (made_trace (state_at xs b) ms) ≡ map (hide lane) (made_trace (state_at xs' b) ms')
  pub wires_shown : (lane : ℕ) {xs xs' : List ℕ} {b : Buffers} {ms ms' : List Made} {rs rs' : List Shown} → load xs ≡ load xs' → MadeWireAlike lane ms ms'
      → Ran xs b ms rs → Ran xs' b ms' rs' → SameShown lane (made_trace (state_at xs b) ms) rs rs'

-- ---- what holds from slots that the library wrote

pub record SlotsFollow : Type 0 where
  -- Every slot after each call is the one that is written for the bank after it.
  pub follow : (bank : Bank) → Storable bank → {b : Buffers} {ms : List Made} {rs : List Shown} (p : Ran (store bank) b ms rs)
      → leaves p ≡ map (λ (r : Stepped). store r.state.bank) (made_trace (record { bank = bank; buffers = b }) ms)
  -- If two lists differ only in one lane's captures, every slot is the same except the nine of that lane's reply and reply counts.
  pub same : (lane : ℕ) (bank : Bank) → Storable bank → {b : Buffers} {ms ms' : List Made} {rs rs' : List Shown} → MadeAlike lane ms ms'
      → (p : Ran (store bank) b ms rs) (q : Ran (store bank) b ms' rs') → SameSlots lane (leaves p) (leaves q)
  -- The same holds if the lists may also differ in whether that lane has a capture.
  pub wires : (lane : ℕ) (bank : Bank) → Storable bank → {b : Buffers} {ms ms' : List Made} {rs rs' : List Shown} → MadeWireAlike lane ms ms'
      → (p : Ran (store bank) b ms rs) (q : Ran (store bank) b ms' rs') → SameSlots lane (leaves p) (leaves q)
  -- The slots of a new bank, after the call that sets it to bidirectional, hold the bank at which demand 3's lists start.
  pub new : (timing : Timing) → Storable (from_lanes 4 timing)
  pub begins : (timing : Timing) (b : Buffers) (ys : List ℕ) → Called true (enable_bidirectional_call true) b (store (from_lanes 4 timing)) ys 0
      → state_at ys b ≡ fresh 4 timing b

-- ---- what a service stores, after such a start and some calls

-- a service as a call from C whose slices fit
abbrev pub service_made : ℕ → List Bool → List Bool → List ℕ → List ℕ → List ℕ → Made
service_made now taken present masks samples out = record { fits = true; call = service_call now taken present masks samples; out = out }

module _ (timing : Timing) (b : Buffers) (ms : List Made) (now : ℕ) (taken present : List Bool) (masks samples : List ℕ) where
  -- the state before the service, and the bank after it, as in the claims about the bank
  abbrev pub state_before : State
  state_before = before 4 timing b (fitting ms) now taken present masks samples

  abbrev pub bank_served : Bank
  bank_served = (served 4 timing b (fitting ms) now taken present masks samples).state.bank

  -- what is claimed of the bank after the service, if the lent buffers and captures fit
  pub record StoresIn (after : Bank) : Type 0 where
    pub stores : fits 4 state_before samples ≡ true → Stored 4 timing b (fitting ms) now taken present masks samples after
    pub decodes : (lane : ℕ) → fits 4 state_before samples ≡ true → reads state_before ≡ true → lane < 4 → get_or present lane false ≡ true
        → Decoded 4 timing b (fitting ms) now taken present masks samples after lane

  pub record SlotsStore (ys out : List ℕ) : Type 0 where
    -- The service is the one of the claims about the bank.
    pub is : made (made_run (state_at ys b) ms) (service_made now taken present masks samples out) ≡ served 4 timing b (fitting ms) now taken present masks samples
    pub bank : StoresIn bank_served
    -- In a list that ran, the slots that the service found hold the bank before it.
    pub found : (rest : List Made) {rs : List Shown} (p : Ran ys b (ms ++ (service_made now taken present masks samples out ∷ rest)) rs)
        → load (get_or (ys ∷ leaves p) (length ms) []) ≡ state_before.bank
    -- The slots that the service left hold the bank after it. The same is claimed of the bank in them.
    pub left : (rest : List Made) {rs : List Shown} (p : Ran ys b (ms ++ (service_made now taken present masks samples out ∷ rest)) rs)
        → load (get_or (leaves p) (length ms) []) ≡ bank_served
    pub slots : (rest : List Made) {rs : List Shown} (p : Ran ys b (ms ++ (service_made now taken present masks samples out ∷ rest)) rs)
        → StoresIn (load (get_or (leaves p) (length ms) []))

-- the claim, for slots that hold the bank at which demand 3's lists start
abbrev pub SlotsStores : Type 0
SlotsStores = (timing : Timing) (b : Buffers) (ys : List ℕ) (ms : List Made) (now : ℕ) (taken present : List Bool) (masks samples out : List ℕ)
    → state_at ys b ≡ fresh 4 timing b → SlotsStore timing b ms now taken present masks samples ys out
