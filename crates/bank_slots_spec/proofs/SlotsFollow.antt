-- Lists of exported calls from slots that the library wrote. They say what every slot is after each call, which slots one lane's captures can change,
-- and what a service stores.
-- Assumes nothing.
use mathlib.Core.Path.{◌≡◌, ◌∙◌, refl, sym, ap, subst}
use mathlib.Core.Bool.{true}
use mathlib.Core.List.{List, [], ◌∷◌, ◌++◌, map}
use Prim.Native.Nat.{ℕ}
use lib.ListN.{length, get_or}
use Rattle.dshot_spec.specs.Timing.{Timing}
use Rattle.dshot_bank_spec.specs.State.{Bank, Buffers}
use Rattle.dshot_bank_spec.specs.Commands.{from_lanes, enable_bidirectional}
use Rattle.dshot_bank_spec.specs.Calls.{enable_bidirectional_call, service_call, State, Stepped}
use Rattle.dshot_bank_spec.specs.Steps.{port_refusal, step}
use Rattle.dshot_bank_spec.specs.Lists.{run, fresh}
use Rattle.dshot_bank_spec.specs.Hide.{hide_state}
use Rattle.dshot_bank_spec.specs.Claims.{served}
use Rattle.dshot_bank_spec.proofs.Refusals.{accepted-run}
use Rattle.dshot_bank_spec.proofs.Storing.{stores}
use Rattle.dshot_bank_spec.proofs.Decoding.{decodes}
use Rattle.bank_slots_spec.specs.Load.{load}
use Rattle.bank_slots_spec.specs.Store.{store}
use Rattle.bank_slots_spec.specs.Storable.{Storable}
use Rattle.bank_slots_spec.specs.Called.{Called, state_at, bank_after, buffers_after}
use Rattle.bank_slots_spec.specs.SlotLists.{Made, made, made_trace, made_run, fitting, Shown, Ran, none_left, one_more, leaves, both_end, both_more, MadeWireAlike}
use Rattle.bank_slots_spec.specs.SlotClaims.{SameSlots, no_state, one_state, SlotsFollow, service_made, state_before, bank_served, StoresIn, SlotsStores}
use Rattle.bank_slots_spec.proofs.Stored.{length-store, load_store, new-fits}
use Rattle.bank_slots_spec.proofs.CalledStored.{called-stored, called-fits}
use Rattle.bank_slots_spec.proofs.HiddenSlots.{same-slots}
use Rattle.bank_slots_spec.proofs.SlotsIsolated.{as-made, holds, made_alike, made-wired, left}

-- ---- every slot follows

-- the slots of each state of a trace
abbrev stored : List Stepped → List (List ℕ)
stored = map (λ (r : Stepped). store r.state.bank)

follow-from : (bank : Bank) → Storable bank → {xs : List ℕ} {b : Buffers} {ms : List Made} {rs : List Shown} → xs ≡ store bank → (p : Ran xs b ms rs)
    → leaves p ≡ stored (made_trace (record { bank = bank; buffers = b }) ms)
follow-from bank f e none_left = refl
follow-from bank f {xs} {b} e (one_more {ys = ys} {b' = b'} {m = m} {ms = ms} {r = r} c d o n w rest) =
    let s : State = record { bank = bank; buffers = b } in
    let c' : Called m.fits m.call b (store bank) ys r = subst (λ (l : List ℕ). Called m.fits m.call b l ys r) e c in
    let n' = n ∙ ap length e ∙ length-store bank in
    let k = called-stored bank f ys c' n' w in
    let next = bank_after m.fits s m.call in
    let q = follow-from next (called-fits bank f ys c' n' w) k rest in
    let d' = d ∙ ap (λ (x : Bank). buffers_after m.fits (record { bank = x; buffers = b }) m.call) (ap load e ∙ load_store bank f) in
    (λ j. k j ∷ q j)
    ∙ ap (λ (x : Buffers). store next ∷ stored (made_trace (record { bank = next; buffers = x }) ms)) d'
    ∙ ap (λ (t : Stepped). store t.state.bank ∷ stored (made_trace t.state ms)) (as-made m.fits m.call m.out s)

follow : (bank : Bank) → Storable bank → {b : Buffers} {ms : List Made} {rs : List Shown} (p : Ran (store bank) b ms rs)
    → leaves p ≡ stored (made_trace (record { bank = bank; buffers = b }) ms)
follow bank f p = follow-from bank f refl p

-- ---- one lane's captures

slots-alike : (lane : ℕ) {ms ms' : List Made} → MadeWireAlike lane ms ms' → (s s' : State) → hide_state lane s ≡ hide_state lane s'
    → SameSlots lane (stored (made_trace s ms)) (stored (made_trace s' ms'))
slots-alike lane both_end s s' e = no_state
slots-alike lane (both_more {fits = fits} {out = out} {c = c} {c' = c'} a rest) s s' e =
    let r = made s (record { fits = fits; call = c; out = out }) in
    let r' = made s' (record { fits = fits; call = c'; out = out }) in
    let h = ap (λ (t : Stepped). t.state) (made_alike lane fits out a s s' e) in
    one_state (length-store r.state.bank ∙ sym (length-store r'.state.bank))
    (same-slots lane r.state.bank r'.state.bank (ap (λ (t : State). t.bank) h)) (slots-alike lane rest r.state r'.state h)

wires : (lane : ℕ) (bank : Bank) → Storable bank → {b : Buffers} {ms ms' : List Made} {rs rs' : List Shown} → MadeWireAlike lane ms ms'
    → (p : Ran (store bank) b ms rs) (q : Ran (store bank) b ms' rs') → SameSlots lane (leaves p) (leaves q)
wires lane bank f {b} {ms} {ms'} a p q =
    let s : State = record { bank = bank; buffers = b } in
    subst (λ (l : List (List ℕ)). SameSlots lane l (leaves q)) (sym (follow bank f p))
    (subst (λ (l : List (List ℕ)). SameSlots lane (stored (made_trace s ms)) l) (sym (follow bank f q)) (slots-alike lane a s s refl))

-- ---- a new bank

begins : (timing : Timing) (b : Buffers) (ys : List ℕ) → Called true (enable_bidirectional_call true) b (store (from_lanes 4 timing)) ys 0
    → state_at ys b ≡ fresh 4 timing b
unfolding bank_after enable_bidirectional step port_refusal
begins timing b ys c =
    let k = load_store (from_lanes 4 timing) (new-fits timing) in
    let e = ap (λ (x : Bank). bank_after true (record { bank = x; buffers = b }) (enable_bidirectional_call true)) k in
    λ j. record { bank = (c.bank ∙ e) j; buffers = b }

pub slots-follow : SlotsFollow
slots-follow = record { follow = follow; same = λ lane bank f a. wires lane bank f (made-wired a); wires = wires; new = new-fits; begins = begins }

-- ---- what a service stores

pub slots-store : SlotsStores
slots-store timing b ys ms now taken present masks samples out e = record {
  is = is;
  bank = bank;
  found = λ rest p. (holds ms m rest p).0 ∙ ap (λ (s : State). s.bank) before;
  left = after;
  slots = λ rest p. subst (StoresIn timing b ms now taken present masks samples) (sym (after rest p)) bank;
}
  where
    m : Made
    m = service_made now taken present masks samples out

    start : State
    start = fresh 4 timing b

    ran : made_run (state_at ys b) ms ≡ run 4 start (fitting ms)
    ran = ap (λ (s : State). made_run s ms) e ∙ left start ms

    before : made_run (state_at ys b) ms ≡ state_before timing b ms now taken present masks samples
    before = ran ∙ sym (accepted-run 4 start (fitting ms))

    is : made (made_run (state_at ys b) ms) m ≡ served 4 timing b (fitting ms) now taken present masks samples
    is = ap (λ (s : State). step 4 s (service_call now taken present masks samples)) ran

    after : (rest : List Made) {rs : List Shown} (p : Ran ys b (ms ++ (m ∷ rest)) rs)
        → load (get_or (leaves p) (length ms) []) ≡ bank_served timing b ms now taken present masks samples
    after rest p = (holds ms m rest p).1 ∙ ap (λ (t : Stepped). t.state.bank) is

    bank : StoresIn timing b ms now taken present masks samples (bank_served timing b ms now taken present masks samples)
    bank = record {
      stores = stores 4 timing b (fitting ms) now taken present masks samples;
      decodes = decodes 4 timing b (fitting ms) now taken present masks samples;
    }
