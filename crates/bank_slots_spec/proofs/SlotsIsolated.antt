-- Demand 3 for lists of exported calls on one state slice. Each call shows what the bank's own call does. Looks change nothing. One lane's captures,
-- or that it has none, change only that lane's replies and reply counts.
-- Assumes nothing.
use mathlib.Core.Path.{◌≡◌, ◌∙◌, refl, sym, ap, subst}
use mathlib.Core.Bool.{Bool, true, false}
use mathlib.Core.List.{List, [], ◌∷◌, ◌++◌, map}
use Prim.Native.Nat.{ℕ}
use lib.ListN.{length, get_or}
use Rattle.dshot_reply_spec.specs.Answer.{pick}
use Rattle.dshot_reply_spec.specs.Refusals.{wrong_length}
use Rattle.dshot_reply_spec.specs.Answer as Reply
use Rattle.dshot_bank_spec.specs.State.{Core, Bank, Buffers}
use Rattle.dshot_bank_spec.specs.Commands.{enable_bidirectional, command_throttles, command_special, request_telemetry}
use Rattle.dshot_bank_spec.specs.Calls.{Call, enable_bidirectional_call, command_stop_call, command_throttles_call, command_special_call, request_telemetry_call, cancel_telemetry_request_call, take_telemetry_request_sent, service_call, on_dma_interrupt_call, take_replies, is_bidirectional, is_faulted, stats, requested_values_call, command_pending_call, reply_stats, sending, lend, refused, State, Stepped, told, commanded, act}
use Rattle.dshot_bank_spec.specs.Steps.{step}
use Rattle.dshot_bank_spec.specs.Lists.{is_look, run, trace}
use Rattle.dshot_bank_spec.specs.Hide.{WireAlike, hide, hide_state}
use Rattle.dshot_bank_spec.proofs.Isolation.{as-wired, step-alike}
use Rattle.dshot_bank_spec.proofs.Refusals.{either_step, looks-keep}
use Rattle.bank_slots_spec.specs.Load.{load}
use Rattle.bank_slots_spec.specs.Called.{Called, number, state_at, answer_of, bank_after, buffers_after}
use Rattle.bank_slots_spec.proofs.HiddenSlots.{same_number, same-long, same-told}
use Rattle.bank_slots_spec.specs.SlotLists.{Made, made, made_trace, made_run, Shown, shown_by, shown_all, fitting, fitting_of, acting_made, acting_made_of, Ran, none_left, one_more, leaves, both_end, both_more, MadeAlike, MadeWireAlike}
use Rattle.bank_slots_spec.specs.SlotClaims.{SameShown, none_shown, one_shown, SlotsIsolated}

-- ---- what is shown

-- what is promised of a call is what `made` says of the loaded state
pub as-made : (fits : Bool) (call : Call) (out : List ℕ) (s : State)
    → ◌≡◌ {A = Stepped} (record { answer = answer_of fits s call; state = record { bank = bank_after fits s call; buffers = buffers_after fits s call } })
    (made s (record { fits = fits; call = call; out = out }))
unfolding answer_of bank_after buffers_after
as-made true call out s = refl
as-made false call out s = refl

as-promised : {xs ys : List ℕ} {b b' : Buffers} {r : ℕ} (m : Made) → Called m.fits m.call b xs ys r → b' ≡ buffers_after m.fits (state_at xs b) m.call
    → ◌≡◌ {A = Stepped} (record { answer = answer_of m.fits (state_at xs b) m.call; state = state_at ys b' }) (made (state_at xs b) m)
as-promised {xs} {b = b} m c e =
    (λ j. record { answer = answer_of m.fits (state_at xs b) m.call; state = record { bank = c.bank j; buffers = e j } })
    ∙ as-made m.fits m.call m.out (state_at xs b)

traced : {xs : List ℕ} {b : Buffers} {ms : List Made} {rs : List Shown} → Ran xs b ms rs → rs ≡ shown_all ms (made_trace (state_at xs b) ms)
traced none_left = refl
traced (one_more {ys = ys} {b' = b'} {m = m} {ms = ms} c e o n w rest) =
    let h = as-promised m c e in
    (λ j. record { returned = c.answer j; answer = o j; state = state_at ys b' } ∷ traced rest j)
    ∙ ap (λ (t : Stepped). shown_by m t ∷ shown_all ms (made_trace t.state ms)) h

-- ---- the slots that one call finds and leaves

-- The slots that call m finds, behind the calls ms, hold the bank that ms leave. The slots that m leaves hold the bank after its step.
abbrev Holds : (ms : List Made) (m : Made) (rest : List Made) {xs : List ℕ} {b : Buffers} {rs : List Shown} → Ran xs b (ms ++ (m ∷ rest)) rs → Type 0
Holds ms m rest {xs} {b} p =
    (load (get_or (xs ∷ leaves p) (length ms) []) ≡ (made_run (state_at xs b) ms).bank)
    × (load (get_or (leaves p) (length ms) []) ≡ (made (made_run (state_at xs b) ms) m).state.bank)

pub holds : (ms : List Made) (m : Made) (rest : List Made) {xs : List ℕ} {b : Buffers} {rs : List Shown} (p : Ran xs b (ms ++ (m ∷ rest)) rs)
    → Holds ms m rest p
holds [] m rest (one_more c e o n w p) = (refl, ap (λ (t : Stepped). t.state.bank) (as-promised m c e))
holds (k ∷ ms) m rest (one_more {ys = ys} {b' = b'} c e o n w p) =
    let h = holds ms m rest p in
    let s = ap (λ (t : Stepped). t.state) (as-promised k c e) in
    (h.0 ∙ ap (λ (t : State). (made_run t ms).bank) s, h.1 ∙ ap (λ (t : State). (made (made_run t ms) m).state.bank) s)

-- ---- the calls that fit

-- what `made` says, once it is known whether the slices fit
abbrev outcome : State → Made → Bool → Stepped
outcome s m fits = pick fits (step 4 s m.call) (told s (refused wrong_length))

one-fitted : (s : State) (m : Made) (ms : List Made) (fits : Bool) → ((t : State) → fitting_of ms (made_trace t ms) ≡ trace 4 t (fitting ms))
    → pick fits
    (outcome s m fits ∷ fitting_of ms (made_trace (outcome s m fits).state ms))
    (fitting_of ms (made_trace (outcome s m fits).state ms))
    ≡ trace 4 s (pick fits (m.call ∷ fitting ms) (fitting ms))
one-fitted s m ms true h = ap (λ (l : List Stepped). step 4 s m.call ∷ l) (h (step 4 s m.call).state)
one-fitted s m ms false h = h s

fitted : (s : State) (ms : List Made) → fitting_of ms (made_trace s ms) ≡ trace 4 s (fitting ms)
fitted s [] = refl
fitted s (m ∷ ms) = one-fitted s m ms m.fits (λ t. fitted t ms)

one_left : (s : State) (m : Made) (ms : List Made) (fits : Bool) → ((t : State) → made_run t ms ≡ run 4 t (fitting ms))
    → made_run (outcome s m fits).state ms ≡ run 4 s (pick fits (m.call ∷ fitting ms) (fitting ms))
one_left s m ms true h = h (step 4 s m.call).state
one_left s m ms false h = h s

pub left : (s : State) (ms : List Made) → made_run s ms ≡ run 4 s (fitting ms)
left s [] = refl
left s (m ∷ ms) = one_left s m ms m.fits (λ t. left t ms)

-- ---- looks

-- a look leaves the state, whether or not its slices fit
made-keeps : (s : State) (m : Made) → is_look m.call ≡ true → (made s m).state ≡ s
made-keeps s m e = side m.fits
  where
    side : (fits : Bool) → (outcome s m fits).state ≡ s
    side true = looks-keep 4 s m.call e
    side false = refl

one-look : (s : State) (m : Made) (ms : List Made) (b : Bool) → is_look m.call ≡ b
    → ((t : State) → made_trace t (acting_made ms) ≡ acting_made_of ms (made_trace t ms))
    → made_trace s (pick b (acting_made ms) (m ∷ acting_made ms))
    ≡ pick b (acting_made_of ms (made_trace (made s m).state ms)) (made s m ∷ acting_made_of ms (made_trace (made s m).state ms))
one-look s m ms true e h = h s ∙ ap (λ (t : State). acting_made_of ms (made_trace t ms)) (sym (made-keeps s m e))
one-look s m ms false e h = ap (λ (l : List Stepped). made s m ∷ l) (h (made s m).state)

looks : (s : State) (ms : List Made) → made_trace s (acting_made ms) ≡ acting_made_of ms (made_trace s ms)
looks s [] = refl
looks s (m ∷ ms) = one-look s m ms (is_look m.call) refl (λ t. looks t ms)

-- The promise of a look speaks only of its answer. It is a call that leaves every slot.
pub look-called : {fits : Bool} {call : Call} {b : Buffers} (xs : List ℕ) {r : ℕ} → is_look call ≡ true → r ≡ number (answer_of fits (state_at xs b) call)
    → Called fits call b xs xs r
unfolding bank_after
look-called {fits} {call} {b} xs l e = record { answer = e; bank = sym (kept fits); stays = λ _. refl; written = λ w. w }
  where
    kept : (f : Bool) → bank_after f (state_at xs b) call ≡ load xs
    kept true = ap (λ (s : State). s.bank) (looks-keep 4 (state_at xs b) call l)
    kept false = refl

-- ---- the buffers

-- whether a call works on the two buffers of sequences
abbrev fills : Call → Bool
fills (enable_bidirectional_call receives) = false
fills command_stop_call = false
fills (command_throttles_call commands now lease) = false
fills (command_special_call motor sequence) = false
fills (request_telemetry_call motor) = false
fills cancel_telemetry_request_call = false
fills take_telemetry_request_sent = false
fills (service_call now taken present masks samples) = true
fills (on_dma_interrupt_call motor complete error turned back) = false
fills take_replies = false
fills is_bidirectional = false
fills is_faulted = false
fills stats = false
fills requested_values_call = false
fills command_pending_call = false
fills reply_stats = false
fills (sending motor) = false
fills (lend buffers) = true

commanded-keeps : (s : State) (a : Reply.Answer Core) → (commanded s a).state.buffers ≡ s.buffers
commanded-keeps s (Reply.given c) = refl
commanded-keeps s (Reply.refused k) = refl

act-keeps : (s : State) (c : Call) → fills c ≡ false → (act 4 s c).state.buffers ≡ s.buffers
act-keeps s (enable_bidirectional_call receives) e = commanded-keeps s (enable_bidirectional receives s.bank.core)
act-keeps s command_stop_call e = refl
act-keeps s (command_throttles_call commands now lease) e = commanded-keeps s (command_throttles 4 commands now lease s.bank.core)
act-keeps s (command_special_call motor sequence) e = commanded-keeps s (command_special motor sequence s.bank.core)
act-keeps s (request_telemetry_call motor) e = commanded-keeps s (request_telemetry motor s.bank.core)
act-keeps s cancel_telemetry_request_call e = refl
act-keeps s take_telemetry_request_sent e = refl
act-keeps s (service_call now taken present masks samples) e = cc
act-keeps s (on_dma_interrupt_call motor complete error turned back) e = refl
act-keeps s take_replies e = refl
act-keeps s is_bidirectional e = refl
act-keeps s is_faulted e = refl
act-keeps s stats e = refl
act-keeps s requested_values_call e = refl
act-keeps s command_pending_call e = refl
act-keeps s reply_stats e = refl
act-keeps s (sending motor) e = refl
act-keeps s (lend buffers) e = cc

-- So the promise of a call that is lent no buffers is one call of a list. That promise speaks only of the state.
pub buffers-kept : (fits : Bool) (s : State) (call : Call) → fills call ≡ false → s.buffers ≡ buffers_after fits s call
unfolding buffers_after
buffers-kept true s call e = sym (either_step 4 s call (λ (r : Stepped). r.state.buffers ≡ s.buffers) (act-keeps s call e) refl)
buffers-kept false s call e = refl

-- ---- one lane's captures

pub made_alike : (lane : ℕ) (fits : Bool) (out : List ℕ) {c c' : Call} → WireAlike lane c c' → (s s' : State) → hide_state lane s ≡ hide_state lane s'
    → hide lane (made s (record { fits = fits; call = c; out = out })) ≡ hide lane (made s' (record { fits = fits; call = c'; out = out }))
made_alike lane true out h s s' e = step-alike 4 lane h s s' e
made_alike lane false out h s s' e = λ j. record { answer = refused wrong_length; state = e j }

trace-alike : (lane : ℕ) {ms ms' : List Made} → MadeWireAlike lane ms ms' → (s s' : State) → hide_state lane s ≡ hide_state lane s'
    → map (hide lane) (made_trace s ms) ≡ map (hide lane) (made_trace s' ms')
trace-alike lane both_end s s' e = refl
trace-alike lane (both_more {fits = fits} {out = out} {c = c} {c' = c'} a rest) s s' e =
    let h = made_alike lane fits out a s s' e in
    let r = made s (record { fits = fits; call = c; out = out }) in
    let r' = made s' (record { fits = fits; call = c'; out = out }) in
    let t = trace-alike lane rest r.state r'.state (ap (λ (x : Stepped). x.state) h) in
    λ j. h j ∷ t j

wires : (lane : ℕ) (xs xs' : List ℕ) (b : Buffers) {ms ms' : List Made} → load xs ≡ load xs' → MadeWireAlike lane ms ms'
    → map (hide lane) (made_trace (state_at xs b) ms) ≡ map (hide lane) (made_trace (state_at xs' b) ms')
wires lane xs xs' b e a = trace-alike lane a (state_at xs b) (state_at xs' b) (ap (λ (k : Bank). hide_state lane (record { bank = k; buffers = b })) e)

-- ---- what is shown of two such lists

shown-alike : (lane : ℕ) {ms ms' : List Made} → MadeWireAlike lane ms ms' → (s s' : State) → hide_state lane s ≡ hide_state lane s'
    → SameShown lane (made_trace s ms) (shown_all ms (made_trace s ms)) (shown_all ms' (made_trace s' ms'))
shown-alike lane both_end s s' e = none_shown
shown-alike lane (both_more {fits = fits} {out = out} {c = c} {c' = c'} a rest) s s' e =
    let h = made_alike lane fits out a s s' e in
    let r = made s (record { fits = fits; call = c; out = out }) in
    let r' = made s' (record { fits = fits; call = c'; out = out }) in
    let k = ap (λ (t : Stepped). t.answer) h in
    one_shown (same_number lane r.answer r'.answer k) (ap (λ (t : Stepped). t.state.buffers) h)
    (same-long lane r.answer r'.answer k out) (same-told lane r.answer r'.answer k out)
    (shown-alike lane rest r.state r'.state (ap (λ (t : Stepped). t.state) h))

wires_shown : (lane : ℕ) {xs xs' : List ℕ} {b : Buffers} {ms ms' : List Made} {rs rs' : List Shown} → load xs ≡ load xs' → MadeWireAlike lane ms ms'
    → Ran xs b ms rs → Ran xs' b ms' rs' → SameShown lane (made_trace (state_at xs b) ms) rs rs'
wires_shown lane {xs} {xs'} {b} {ms} {ms'} {rs' = rs'} e a p q =
    subst (λ (l : List Shown). SameShown lane (made_trace (state_at xs b) ms) l rs') (sym (traced p))
    (subst (λ (l : List Shown). SameShown lane (made_trace (state_at xs b) ms) (shown_all ms (made_trace (state_at xs b) ms)) l) (sym (traced q))
    (shown-alike lane a (state_at xs b) (state_at xs' b) (ap (λ (k : Bank). hide_state lane (record { bank = k; buffers = b })) e)))

-- document 01's lists are a case of these
pub made-wired : {lane : ℕ} {ms ms' : List Made} → MadeAlike lane ms ms' → MadeWireAlike lane ms ms'
made-wired both_end = both_end
made-wired (both_more a rest) = both_more (as-wired a) (made-wired rest)

pub slots-isolated : SlotsIsolated
slots-isolated = record {
  traced = traced;
  fitted = fitted;
  left = left;
  looks = looks;
  captures = λ lane xs xs' b e a. wires lane xs xs' b e (made-wired a);
  shown = λ lane e a. wires_shown lane e (made-wired a);
  wires = wires;
  wires_shown = wires_shown;
}
