-- What a service stores of each lane. If it reads, that is what the reader makes of the lane's window and mask. If not, it is what was there.
-- Assumes nothing.
use mathlib.Core.Path.{◌≡◌, ◌∙◌, refl, sym, ap, subst}
use Prim.Native.Nat.{ℕ, ◌<◌}
use mathlib.Core.Bool.{Bool, true, false, not, false≢true}
use mathlib.Core.List.{List}
use lib.Dec.{ltb}
use lib.ListN.{get_or}
use Rattle.dshot_reply_spec.proofs.Choice.{not_first}
use Rattle.dshot_reply_spec.specs.Answer.{pick, is_given}
use Rattle.dshot_reply_spec.specs.Answer as Reply
use Rattle.dshot_reply_spec.specs.Value.{Reading}
use Rattle.dshot_spec.proofs.Tabulated.{get_d_tabulate}
use Rattle.dshot_bank_spec.specs.Lanes.{position}
use Rattle.dshot_bank_spec.specs.State.{Frame, Core, LaneReply, Buffers}
use Rattle.dshot_bank_spec.specs.Commands.{no_replies, command_stop, clear_request_sent}
use Rattle.dshot_bank_spec.specs.Replies.{count_reply, decode_lane, decode_replies}
use Rattle.dshot_bank_spec.specs.Send.{Sent, latch_fault, exchange_refused, exchange_buffers, frame_started, send_requested}
use Rattle.dshot_bank_spec.specs.Service.{Served, replies_read, read_replies, service_core}
use Rattle.dshot_bank_spec.specs.Calls.{service_call, State, Stepped, act}
use Rattle.dshot_bank_spec.specs.Steps.{length_refusal, port_refusal, refuse_or, step}
use Rattle.dshot_bank_spec.specs.Lists.{run, fresh}
use Rattle.dshot_bank_spec.specs.Claims.{reads, fits, before, Stores}
use Rattle.dshot_bank_spec.proofs.LaneLaws.{on, either}
use Rattle.dshot_bank_spec.proofs.Refusals.{accepted-run}
use Rattle.dshot_bank_spec.proofs.Service.{leased_core, leased-frame, service-sends}

-- ---- one lane

-- counting keeps the reply
pub count-keeps : (r : Reply.Answer Reading) (l : LaneReply) → (count_reply r l).reply ≡ r
unfolding count_reply
count-keeps r l = either (λ (x : LaneReply). x.reply ≡ r) (is_given r) refl refl

pub lane-stored : (n lane : ℕ) → lane < n → (reading : Bool) (present : List Bool) (masks samples : List ℕ) (old : List LaneReply)
    → get_or (read_replies n reading present masks samples old) lane no_replies
    ≡ pick reading (decode_lane present masks samples old lane) (get_or old lane no_replies)
unfolding read_replies decode_replies
lane-stored n lane h true present masks samples old = get_d_tabulate (decode_lane present masks samples old) n lane no_replies h
lane-stored n lane h false present masks samples old = refl

-- ---- one service

-- sending leaves the replies there to be taken
sent-holds : (n now : ℕ) (taken : List Bool) (c : Core) → (send_requested n now taken c).core.frame.replies_held ≡ c.frame.replies_held
unfolding send_requested exchange_buffers exchange_refused latch_fault command_stop frame_started
sent-holds n now taken c = either (λ (t : Sent). t.core.frame.replies_held ≡ c.frame.replies_held) (ltb (position not taken) n) refl refl

read-holds : (c : Core) → c.frame.replies_waiting ≡ true → true ≡ (replies_read c).frame.replies_held
unfolding replies_read
read-holds c w = ap (λ (x : Core). x.frame.replies_held) (on _ _ w refl)

module _ (n now : ℕ) (taken present : List Bool) (masks samples : List ℕ) (replies : List LaneReply) (buffers : Buffers) where
  -- a fault f, or a frame in flight b, keeps a service from reading
  picked-replies : (f b w : Bool) (x y z : Served) → x.bank.replies ≡ replies → y.bank.replies ≡ replies
      → z.bank.replies ≡ read_replies n w present masks samples replies
      → (pick f x (pick b y z)).bank.replies ≡ read_replies n (pick f false (pick b false w)) present masks samples replies
  unfolding read_replies
  picked-replies true b w x y z p q r = p
  picked-replies false true w x y z p q r = q
  picked-replies false false w x y z p q r = r

  pub service-reads : (c : Core) → (service_core n now taken present masks samples replies buffers c).bank.replies
      ≡ read_replies n (pick c.frame.faulted false (pick c.frame.busy false c.frame.replies_waiting)) present masks samples replies
  unfolding service_core clear_request_sent
  service-reads c =
      let d = c.frame.faulted in
      let f = (leased_core n now c).frame in
      picked-replies d f.busy f.replies_waiting _ _ _ refl refl refl
      ∙ ap (λ (q : Frame). read_replies n (pick d false (pick q.busy false q.replies_waiting)) present masks samples replies)
      (leased-frame n now c)

  -- what a service reads is there to be taken
  service-holds : (c : Core) → pick c.frame.faulted false (pick c.frame.busy false c.frame.replies_waiting) ≡ true
      → (service_core n now taken present masks samples replies buffers c).bank.core.frame.replies_held ≡ true
  service-holds c h =
      let p = not_first c.frame.faulted h false≢true in
      let q = not_first c.frame.busy p.1 false≢true in
      let c₁ = leased_core n now c in
      ap (λ (z : Served). z.bank.core.frame.replies_held) (sym (service-sends n now taken present masks samples replies buffers c p.0 q.0))
      ∙ sent-holds n now taken (replies_read c₁)
      ∙ sym (read-holds c₁ (ap (λ (f : Frame). f.replies_waiting) (leased-frame n now c) ∙ q.1))

-- ---- a service that follows some calls

module _ (n : ℕ) (s : State) (now : ℕ) (taken present : List Bool) (masks samples : List ℕ) where
  abbrev served : Stepped
  served = step n s (service_call now taken present masks samples)

  -- what Stored says, of any state before the service
  abbrev StoredAfter : State → Type 0
  StoredAfter b =
      ((lane : ℕ) → lane < n
      → get_or served.state.bank.replies lane no_replies
      ≡ pick (reads b) (decode_lane present masks samples b.bank.replies lane) (get_or b.bank.replies lane no_replies))
      × (reads b ≡ true → served.state.bank.core.frame.replies_held ≡ true)

  -- with the right lengths nothing is refused
  service-acts : fits n s samples ≡ true → served ≡ act n s (service_call now taken present masks samples)
  unfolding step port_refusal
  service-acts h = ap (λ (t : Bool). refuse_or s (length_refusal t 0) (act n s (service_call now taken present masks samples))) h

  stored-after : fits n s samples ≡ true → StoredAfter s
  stored-after h =
      let c = s.bank.core in
      let a = service-acts h in (
        λ lane l.
            ap (λ (r : Stepped). get_or r.state.bank.replies lane no_replies) a
            ∙ ap (λ (r : List LaneReply). get_or r lane no_replies) (service-reads n now taken present masks samples s.bank.replies s.buffers c)
            ∙ lane-stored n lane l (reads s) present masks samples s.bank.replies,
        λ r.
            ap (λ (z : Stepped). z.state.bank.core.frame.replies_held) a
            ∙ service-holds n now taken present masks samples s.bank.replies s.buffers c r,
      )

pub stores : Stores
stores n timing buffers calls now taken present masks samples h =
    record {
      lanes = after.0;
      replies = λ r lane l. ap (λ (x : LaneReply). x.reply) (after.0 lane l ∙ sym (on _ _ r refl)) ∙ count-keeps _ _;
      held = after.1;
    }
  where
    start : State
    start = fresh n timing buffers

    after : StoredAfter n (run n start calls) now taken present masks samples (before n timing buffers calls now taken present masks samples)
    after =
        subst (StoredAfter n (run n start calls) now taken present masks samples) (sym (accepted-run n start calls))
        (stored-after n (run n start calls) now taken present masks samples (ap (λ (s : State). fits n s samples) (sym (accepted-run n start calls)) ∙ h))
