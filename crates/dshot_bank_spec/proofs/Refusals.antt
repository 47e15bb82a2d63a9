-- A refused call and a call that only looks leave the state as it was. A list goes on as if they were not in it.
-- Assumes nothing.
use mathlib.Core.Path.{◌≡◌, ◌∙◌, refl, sym, ap}
use Prim.Native.Nat.{ℕ}
use mathlib.Core.List.{List, [], ◌∷◌}
use mathlib.Core.Bool.{Bool, true, false, true≢false}
use borrow.Author.Tests.{eqb-true}
use lib.Dec.{eqb}
use Rattle.dshot_reply_spec.proofs.Choice.{not-second}
use Rattle.dshot_reply_spec.specs.Answer.{pick, given}
use Rattle.dshot_reply_spec.specs.Answer as Reply
use Rattle.dshot_bank_spec.specs.State.{Core}
use Rattle.dshot_bank_spec.specs.Commands.{enable_bidirectional, command_throttles, command_special, request_telemetry}
use Rattle.dshot_bank_spec.specs.Calls.{Call, enable_bidirectional_call, command_stop_call, command_throttles_call, command_special_call, request_telemetry_call, cancel_telemetry_request_call, take_telemetry_request_sent, service_call, on_dma_interrupt_call, take_replies, is_bidirectional, is_faulted, stats, requested_values_call, command_pending_call, reply_stats, sending, lend, refused, State, Stepped, told, commanded, act}
use Rattle.dshot_bank_spec.specs.Steps.{port_refusal, step}
use Rattle.dshot_bank_spec.specs.Lists.{trace, run, source_run, is_look, acting, acting_of, is_refused, accepted, accepted_of}
use Rattle.dshot_bank_spec.specs.Claims.{LooksKeep, RefusalsKeep, RefusalsLeaveOut}
use Rattle.dshot_bank_spec.proofs.LaneLaws.{either, under}

-- ---- what a refused call leaves

-- if the answer is a refusal, the state stays
abbrev Keeps : State → Stepped → Type 0
Keeps s r = is_refused r.answer ≡ true → r.state ≡ s

commanded-keeps : (s : State) (a : Reply.Answer Core) → Keeps s (commanded s a)
commanded-keeps s (given c) e = cc
commanded-keeps s (Reply.refused k) e = refl

-- the source's calls
act-keeps : (n : ℕ) (s : State) (c : Call) → Keeps s (act n s c)
act-keeps n s (enable_bidirectional_call receives) = commanded-keeps s (enable_bidirectional receives s.bank.core)
act-keeps n s command_stop_call = λ e. cc
act-keeps n s (command_throttles_call commands now lease) = commanded-keeps s (command_throttles n commands now lease s.bank.core)
act-keeps n s (command_special_call motor sequence) = commanded-keeps s (command_special motor sequence s.bank.core)
act-keeps n s (request_telemetry_call motor) = commanded-keeps s (request_telemetry motor s.bank.core)
act-keeps n s cancel_telemetry_request_call = λ e. cc
act-keeps n s take_telemetry_request_sent = λ e. cc
act-keeps n s (service_call now taken present masks samples) = λ e. cc
act-keeps n s (on_dma_interrupt_call motor complete error turned back) = λ e. cc
act-keeps n s take_replies = λ e. cc
act-keeps n s is_bidirectional = λ e. refl
act-keeps n s is_faulted = λ e. refl
act-keeps n s stats = λ e. refl
act-keeps n s requested_values_call = λ e. refl
act-keeps n s command_pending_call = λ e. refl
act-keeps n s reply_stats = λ e. refl
act-keeps n s (sending motor) = λ e. refl
act-keeps n s (lend buffers) = λ e. cc

-- what holds of what the source does, and of a refusal that leaves all as it was, holds of a call
pub either_step : (n : ℕ) (s : State) (c : Call) (P : Stepped → Type 0)
    → P (act n s c) → P (record { answer = refused (port_refusal n s c); state = s }) → P (step n s c)
unfolding step
either_step n s c P h k = either P (eqb (port_refusal n s c) 0) h k

pub refusals-keep : RefusalsKeep
refusals-keep n s c = either_step n s c (Keeps s) (act-keeps n s c) (λ e. refl)

-- ---- what a call that only looks leaves

act-looks : (n : ℕ) (s : State) (c : Call) → is_look c ≡ true → (act n s c).state ≡ s
act-looks n s (enable_bidirectional_call receives) e = cc
act-looks n s command_stop_call e = cc
act-looks n s (command_throttles_call commands now lease) e = cc
act-looks n s (command_special_call motor sequence) e = cc
act-looks n s (request_telemetry_call motor) e = cc
act-looks n s cancel_telemetry_request_call e = cc
act-looks n s take_telemetry_request_sent e = cc
act-looks n s (service_call now taken present masks samples) e = cc
act-looks n s (on_dma_interrupt_call motor complete error turned back) e = cc
act-looks n s take_replies e = cc
act-looks n s is_bidirectional e = refl
act-looks n s is_faulted e = refl
act-looks n s stats e = refl
act-looks n s requested_values_call e = refl
act-looks n s command_pending_call e = refl
act-looks n s reply_stats e = refl
act-looks n s (sending motor) e = refl
act-looks n s (lend buffers) e = cc

pub looks-keep : LooksKeep
looks-keep n s c e = either_step n s c (λ (r : Stepped). r.state ≡ s) (act-looks n s c e) refl

-- ---- a list without its refused calls, and one without its calls that only look

-- a call that is not refused is what the source does
pub accepted-acts : (n : ℕ) (s : State) (c : Call) → is_refused (step n s c).answer ≡ false → step n s c ≡ act n s c
accepted-acts n s c = either_step n s c (λ (r : Stepped). is_refused r.answer ≡ false → r ≡ act n s c) (λ e. refl) (λ e. cc)

-- the port has no refusal of it
pub accepted-port : (n : ℕ) (s : State) (c : Call) → is_refused (step n s c).answer ≡ false → port_refusal n s c ≡ 0
unfolding step
accepted-port n s c e =
    let k = port_refusal n s c in
    let b = eqb k 0 in
    eqb-true k 0 (not-second b (under (λ (r : Stepped). is_refused r.answer) b (act n s c) (told s (refused k)) ∙ e) true≢false).0

-- b: whether the first call is left out. rest: what is left of the calls after it. left: what is left of their trace. Both depend on the state at the
-- start.
one-left-out : (n : ℕ) (s : State) (c : Call) (b : Bool) (rest : State → List Call) (left : State → List Stepped) → (b ≡ true → (step n s c).state ≡ s)
    → ((t : State) → trace n t (rest t) ≡ left t)
    → trace n s (pick b (rest s) (c ∷ rest (step n s c).state)) ≡ pick b (left (step n s c).state) (step n s c ∷ left (step n s c).state)
one-left-out n s c true rest left k h = h s ∙ ap left (sym (k refl))
one-left-out n s c false rest left k h = ap (λ (l : List Stepped). step n s c ∷ l) (h (step n s c).state)

pub refusals-leave-out : RefusalsLeaveOut
refusals-leave-out n s [] = refl
refusals-leave-out n s (c ∷ cs) =
    one-left-out n s c (is_refused (step n s c).answer) (λ t. accepted n t cs) (λ t. accepted_of (trace n t cs)) (refusals-keep n s c) (λ t. refusals-leave-out n t cs)

-- without its calls that only look a list has the rest of its trace
pub looks-leave-out : (n : ℕ) (s : State) (calls : List Call) → trace n s (acting calls) ≡ acting_of calls (trace n s calls)
looks-leave-out n s [] = refl
looks-leave-out n s (c ∷ cs) =
    one-left-out n s c (is_look c) (λ t. acting cs) (λ t. acting_of cs (trace n t cs)) (looks-keep n s c) (λ t. looks-leave-out n t cs)

-- b: whether the first call is refused
one-run : (n : ℕ) (s : State) (c : Call) (cs : List Call) (b : Bool) → (b ≡ true → (step n s c).state ≡ s) → (b ≡ false → step n s c ≡ act n s c)
    → ((t : State) → source_run n t (accepted n t cs) ≡ run n t cs)
    → source_run n s (pick b (accepted n s cs) (c ∷ accepted n (step n s c).state cs)) ≡ run n (step n s c).state cs
one-run n s c cs true k a h = h s ∙ ap (λ (t : State). run n t cs) (sym (k refl))
one-run n s c cs false k a h =
    ap (λ (r : Stepped). source_run n r.state (accepted n (step n s c).state cs)) (sym (a refl)) ∙ h (step n s c).state

-- the source's calls, over the calls that are not refused, leave what the whole list leaves
pub accepted-run : (n : ℕ) (s : State) (calls : List Call) → source_run n s (accepted n s calls) ≡ run n s calls
accepted-run n s [] = refl
accepted-run n s (c ∷ cs) = one-run n s c cs (is_refused (step n s c).answer) (refusals-keep n s c) (accepted-acts n s c) (λ t. accepted-run n t cs)
