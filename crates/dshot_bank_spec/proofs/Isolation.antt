-- One lane's captures, and whether it has one, change only that lane's reply and reply counts. Looks change nothing. This holds over every list of
-- calls and for every number of lanes.
-- Assumes nothing.
use mathlib.Core.Path.{◌≡◌, ◌∙◌, refl, sym, ap}
use Prim.Native.Nat.{ℕ, ◌+◌, ◌*◌, ◌<◌}
use mathlib.Core.List.{List, [], ◌∷◌, map}
use mathlib.Core.Bool.{Bool, true, false}
use mathlib.Core.Option.{none, some}
use native.Mathlib.Omega.{arith}
use native.Mathlib.Decide.{dec_lt}
use lib.Dec.{eqb}
use lib.ListN.{get_or, set, drop, length-take, length-drop}
use lib.Seq.{get_or-take, get_or-drop, ext_get_or}
use Rattle.dshot_reply_spec.specs.Answer.{pick, given}
use Rattle.dshot_reply_spec.specs.Answer as Reply
use Rattle.dshot_bank_spec.specs.State.{Core, LaneReply, Buffers}
use Rattle.dshot_bank_spec.specs.Commands.{no_replies, enable_bidirectional, command_throttles, command_special, request_telemetry, clear_request_sent}
use Rattle.dshot_bank_spec.specs.Replies.{window, read_window, count_reply, decode_replies}
use Rattle.dshot_bank_spec.specs.Service.{Served, Skipped, skipped, unsent, service_busy, demand_expired, expire_lease, replies_read, read_replies, service_core}
use Rattle.dshot_bank_spec.specs.Service as Service
use Rattle.dshot_bank_spec.specs.Calls.{Call, enable_bidirectional_call, command_stop_call, command_throttles_call, command_special_call, request_telemetry_call, cancel_telemetry_request_call, take_telemetry_request_sent, service_call, on_dma_interrupt_call, take_replies, is_bidirectional, is_faulted, stats, requested_values_call, command_pending_call, reply_stats, sending, lend, done, refused, replied, reply_counts, State, Stepped, told, changed, commanded, served_step, replies_of, replies_taken, act}
use Rattle.dshot_bank_spec.specs.Steps.{buffers_fit, length_refusal, port_refusal, refuse_or, step}
use Rattle.dshot_bank_spec.specs.Lists.{trace, fresh}
use Rattle.dshot_bank_spec.specs.Hide.{hide, hide_state, hide_replies, hide_taken, CapturesAlike, Alike, same, captured, none_left, one_more, AlikeAll, WireAlike, same_wired, wired, WireAlikeAll}
use Rattle.dshot_bank_spec.specs.Claims.{Isolated}
use Rattle.dshot_bank_spec.proofs.HiddenLaws.{hidden-replies}
use Rattle.dshot_bank_spec.proofs.LaneLaws.{set-tabulate, map-set}
use Rattle.dshot_bank_spec.proofs.Refusals.{looks-leave-out}
use Rattle.dshot_bank_spec.proofs.Service.{service_send, service_open}

-- ---- the windows

-- another lane's window is the same if all samples outside this lane's window are
windows : (lane : ℕ) {m m' s s' : List ℕ} → CapturesAlike lane m m' s s' → (k : ℕ) → (k ≡ lane → ⊥) → window s k ≡ window s' k
windows lane {s = s} {s' = s'} h k ne =
    ext_get_or 0 (window s k) (window s' k) (simp (length-take, length-drop) (rw h.long))
    (λ i l. let b : i < 160 = omega (arith, length-take 160 (drop (160 * k) s)) in entry s i b ∙ sides (dec_lt k lane) i b ∙ sym (entry s' i b))
  where
    entry : (l : List ℕ) (i : ℕ) → i < 160 → get_or (window l k) i 0 ≡ get_or l (160 * k + i) 0
    entry l i b = get_or-take 160 (drop (160 * k) l) i 0 b ∙ get_or-drop (160 * k) l i 0

    sides : Dec (k < lane) → (i : ℕ) → i < 160 → get_or s (160 * k + i) 0 ≡ get_or s' (160 * k + i) 0
    sides (yes p) i b = h.before (160 * k + i) (omega arith)
    sides (no q) i b = let above : lane < k = omega arith in h.after (160 * k + i) (omega arith)

-- ---- a service

abbrev hide_served : ℕ → Served → Served
hide_served lane z = record {
  event = z.event;
  orders = z.orders;
  bank = record { core = z.bank.core; replies = hide_replies lane z.bank.replies };
  buffers = z.buffers;
}

-- a test picks alike if both sides are alike
picked : {A B : Type 0} (f : A → B) (b : Bool) (x x' y y' : A) → f x ≡ f x' → f y ≡ f y' → f (pick b x y) ≡ f (pick b x' y')
picked f true x x' y y' p q = p
picked f false x x' y y' p q = q

-- what a service makes of the lane's captures p, m, s (or p', m', s') and of the replies before it, r (or r')
module _ (n lane now : ℕ) (taken p p' : List Bool) (m m' s s' : List ℕ) (r r' : List LaneReply) (b : Buffers)
    (er : hide_replies lane r ≡ hide_replies lane r')
    (ep : (k : ℕ) → (k ≡ lane → ⊥) → get_or p k false ≡ get_or p' k false)
    (a : CapturesAlike lane m m' s s') where
  abbrev Alikes : (List Bool → List ℕ → List ℕ → List LaneReply → Served) → Type 0
  Alikes f = hide_served lane (f p m s r) ≡ hide_served lane (f p' m' s' r')

  read_alike : (waiting : Bool) → hide_replies lane (read_replies n waiting p m s r) ≡ hide_replies lane (read_replies n waiting p' m' s' r')
  unfolding read_replies decode_replies
  read_alike true = set-tabulate n lane no_replies _ _
      (λ k ne.
      let o = hidden-replies lane r r' er k ne in
      let w = windows lane a k ne in
      let t = a.masks k (omega arith) in
      let h = ep k ne in
      λ j. count_reply (read_window (h j) (w j) (t j)) (o j))
  read_alike false = er

  unsent-alike : (k : Skipped) → Alikes (λ w x y z. unsent n now taken w x y z b k)
  unsent-alike k = λ j. unsent n now taken p m s (er j) b k

  send-alike : (expired : Bool) (c : Core) → Alikes (λ w x y z. service_send n now taken w x y z b expired c)
  send-alike expired c =
      let h = read_alike c.frame.replies_waiting in
      λ j. Service.sending n now taken p m s r b expired (replies_read c) (h j)

  open-alike : (expired : Bool) (c : Core) → Alikes (λ w x y z. service_open n now taken w x y z b expired c)
  open-alike expired c =
      let k = service_busy n now expired c in
      picked (hide_served lane) c.frame.busy (unsent n now taken p m s r b k) (unsent n now taken p' m' s' r' b k)
      (service_send n now taken p m s r b expired c) (service_send n now taken p' m' s' r' b expired c) (unsent-alike k) (send-alike expired c)

  service-alike : (c : Core) → Alikes (λ w x y z. service_core n now taken w x y z b c)
  unfolding service_core
  service-alike c =
      let c₀ = clear_request_sent c in
      let k = skipped Service.faulted [] c₀ in
      let expired = demand_expired now c₀.demand in
      let c₁ = expire_lease n expired c₀ in
      picked (hide_served lane) c₀.frame.faulted (unsent n now taken p m s r b k) (unsent n now taken p' m' s' r' b k)
      (service_open n now taken p m s r b expired c₁) (service_open n now taken p' m' s' r' b expired c₁) (unsent-alike k) (open-alike expired c₁)

-- ---- captures that are the same

same-captures : {lane : ℕ} {m s : List ℕ} → CapturesAlike lane m m s s
same-captures = record { long = refl; before = λ i l. refl; after = λ i l. refl; masks = λ i ne. refl }

-- ---- one call, from two states that are alike

module _ (n lane : ℕ) (s s' : State) (e : hide_state lane s ≡ hide_state lane s') where
  old : hide_replies lane s.bank.replies ≡ hide_replies lane s'.bank.replies
  old = ap (λ (x : State). x.bank.replies) e

  -- two calls that the port refuses alike, and for which the source's results are alike
  abbrev AlikeActs : Call → Call → Type 0
  AlikeActs c c' = (port_refusal n s c ≡ port_refusal n s' c') × (hide lane (act n s c) ≡ hide lane (act n s' c'))

  alike-step : (c c' : Call) → AlikeActs c c' → hide lane (step n s c) ≡ hide lane (step n s' c')
  unfolding step
  alike-step c c' h =
      let k = port_refusal n s c in
      picked (hide lane) (eqb k 0) (act n s c) (act n s' c') (told s (refused k)) (told s' (refused k)) h.1 (λ j. told (e j) (refused k))
      ∙ ap (λ (x : ℕ). hide lane (refuse_or s' x (act n s' c'))) h.0

  answered-alike : (a : Reply.Answer Core) → hide lane (commanded s a) ≡ hide lane (commanded s' a)
  answered-alike (given c) = λ j. changed (e j) done c
  answered-alike (Reply.refused k) = λ j. told (e j) (refused k)

  -- the core that a call makes depends only on the core before it
  commanded-alike : (f : Core → Reply.Answer Core) → hide lane (commanded s (f s.bank.core)) ≡ hide lane (commanded s' (f s'.bank.core))
  commanded-alike f = answered-alike (f s.bank.core) ∙ ap (λ (x : State). hide lane (commanded s' (f x.bank.core))) e

  serve-alike : (now : ℕ) (taken p p' : List Bool) {m m' x x' : List ℕ} → ((k : ℕ) → (k ≡ lane → ⊥) → get_or p k false ≡ get_or p' k false)
      → CapturesAlike lane m m' x x' → AlikeActs (service_call now taken p m x) (service_call now taken p' m' x')
  unfolding port_refusal
  serve-alike now taken p p' {m} {m'} {x} {x'} ep a =
      let r = s.bank.replies in
      let r' = s'.bank.replies in (
        λ j. length_refusal (pick (buffers_fit n (e j).buffers) (eqb (a.long j) (160 * n)) false) 0,
        ap (served_step s) (service-alike n lane now taken p p' m m' x x' r r' s.buffers old ep a s.bank.core)
            ∙ ap (λ (z : State). hide lane (served_step z (service_core n now taken p' m' x' r' z.buffers z.bank.core))) e,
      )

  -- a list of the lanes' fields, with the lane hidden
  field_alike : {A : Type 0} (f : LaneReply → A)
      → set (map f s.bank.replies) lane (f no_replies) ≡ set (map f s'.bank.replies) lane (f no_replies)
  field_alike f = sym (map-set f s.bank.replies lane no_replies) ∙ ap (map f) old ∙ map-set f s'.bank.replies lane no_replies

  take-alike : hide lane (act n s take_replies) ≡ hide lane (act n s' take_replies)
  take-alike =
      let held = s.bank.core.frame.replies_held in
      let l = some (replies_of s.bank.replies) in
      let l' = some (replies_of s'.bank.replies) in
      let taken = picked (hide_taken lane) held l l' none none (λ j. some (field_alike (λ (r : LaneReply). r.reply) j)) refl in
      ◌∙◌ {A = Stepped}
      (λ j. changed (e j) (replied (taken j)) (replies_taken s.bank.core))
      (ap (λ (x : State). hide lane (changed s' (replied (pick x.bank.core.frame.replies_held l' none)) (replies_taken x.bank.core))) e)

  counts-alike : hide lane (act n s reply_stats) ≡ hide lane (act n s' reply_stats)
  counts-alike =
      let valid = field_alike (λ (r : LaneReply). r.valid) in
      let invalid = field_alike (λ (r : LaneReply). r.invalid) in
      let consecutive = field_alike (λ (r : LaneReply). r.consecutive_invalid) in
      λ j. told (e j) (reply_counts (record { valid = valid j; invalid = invalid j; consecutive_invalid = consecutive j }))

  -- with the lane hidden before the call
  act-hidden : (c : Call) → act n (hide_state lane s) c ≡ act n (hide_state lane s') c
  act-hidden c = ap (λ (x : State). act n x c) e

  -- the same call
  same_alike : (c : Call) → AlikeActs c c
  unfolding port_refusal
  same_alike (enable_bidirectional_call receives) = (refl, commanded-alike (enable_bidirectional receives))
  same_alike command_stop_call = (refl, act-hidden command_stop_call)
  same_alike (command_throttles_call v now lease) = (refl, commanded-alike (command_throttles n v now lease))
  same_alike (command_special_call motor run) = (refl, commanded-alike (command_special motor run))
  same_alike (request_telemetry_call motor) = (refl, commanded-alike (request_telemetry motor))
  same_alike cancel_telemetry_request_call = (refl, act-hidden cancel_telemetry_request_call)
  same_alike take_telemetry_request_sent = (refl, act-hidden take_telemetry_request_sent)
  same_alike (service_call now taken p m x) = serve-alike now taken p p (λ k ne. refl) same-captures
  same_alike (on_dma_interrupt_call motor a b c d) = (refl, act-hidden (on_dma_interrupt_call motor a b c d))
  same_alike take_replies = (refl, take-alike)
  same_alike is_bidirectional = (refl, act-hidden is_bidirectional)
  same_alike is_faulted = (refl, act-hidden is_faulted)
  same_alike stats = (refl, act-hidden stats)
  same_alike requested_values_call = (refl, act-hidden requested_values_call)
  same_alike command_pending_call = (refl, act-hidden command_pending_call)
  same_alike reply_stats = (refl, counts-alike)
  same_alike (sending motor) = (ap (λ (x : State). port_refusal n x (sending motor)) e, act-hidden (sending motor))
  same_alike (lend b) = (refl, act-hidden (lend b))

-- ---- lists of calls

pub step-alike : (n lane : ℕ) {c c' : Call} → WireAlike lane c c' → (s s' : State) → hide_state lane s ≡ hide_state lane s'
    → hide lane (step n s c) ≡ hide lane (step n s' c')
step-alike n lane (same_wired c) s s' e = alike-step n lane s s' e c c (same_alike n lane s s' e c)
step-alike n lane (wired now taken {p = p} {p' = p'} {m = m} {m' = m'} {s = x} {s' = x'} ep a) s s' e =
    alike-step n lane s s' e (service_call now taken p m x) (service_call now taken p' m' x')
    (serve-alike n lane s s' e now taken p p' (λ k ne. ep k (omega arith)) a)

trace-alike : (n lane : ℕ) {cs cs' : List Call} → WireAlikeAll lane cs cs' → (s s' : State) → hide_state lane s ≡ hide_state lane s'
    → map (hide lane) (trace n s cs) ≡ map (hide lane) (trace n s' cs')
trace-alike n lane none_left s s' e = refl
trace-alike n lane (one_more {c} {c'} a rest) s s' e =
    let h = step-alike n lane a s s' e in
    let t = trace-alike n lane rest (step n s c).state (step n s' c').state (ap (λ (r : Stepped). r.state) h) in
    λ j. h j ∷ t j

-- from any start
pub isolated-from : (n lane : ℕ) (start : State) (calls calls' : List Call) → WireAlikeAll lane calls calls'
    → map (hide lane) (trace n start calls) ≡ map (hide lane) (trace n start calls')
isolated-from n lane start calls calls' h = trace-alike n lane h start start refl

-- document 01's lists are a case of these
pub as-wired : {lane : ℕ} {c c' : Call} → Alike lane c c' → WireAlike lane c c'
as-wired (same c) = same_wired c
as-wired (captured now taken present a) = wired now taken (λ i ne. refl) a

all-wired : {lane : ℕ} {cs cs' : List Call} → AlikeAll lane cs cs' → WireAlikeAll lane cs cs'
all-wired none_left = none_left
all-wired (one_more a rest) = one_more (as-wired a) (all-wired rest)

pub isolated : Isolated
isolated = record {
  captures = λ n lane timing buffers calls calls' h. isolated-from n lane (fresh n timing buffers) calls calls' (all-wired h);
  wires = λ n lane timing buffers. isolated-from n lane (fresh n timing buffers);
  looks = λ n timing buffers. looks-leave-out n (fresh n timing buffers);
}
