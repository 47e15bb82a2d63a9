-- What is counted of the replies, and that they are handed out once. For every number of lanes and every state.
-- Assumes nothing.
use mathlib.Core.Path.{◌≡◌, ◌∙◌, refl, sym, ap}
use Prim.Native.Nat.{ℕ, ◌+◌, ◌%◌, ◌^◌, ◌<◌}
use mathlib.Core.Bool.{Bool, true, false}
use mathlib.Core.List.{List}
use mathlib.Core.Option.{none, some}
use native.Mathlib.Nat.{mod-add-mod, add-mod-mod}
use native.Mathlib.Omega.{arith}
use lib.ListN.{get_or}
use Rattle.dshot_reply_spec.specs.Answer.{pick}
use Rattle.dshot_reply_spec.specs.Answer as Reply
use Rattle.dshot_reply_spec.specs.Value.{Reading}
use Rattle.dshot_bank_spec.specs.State.{Core, LaneReply, Buffers}
use Rattle.dshot_bank_spec.specs.Commands.{no_replies}
use Rattle.dshot_bank_spec.specs.Replies.{wrapping_add, saturating_add, count_reply}
use Rattle.dshot_bank_spec.specs.Service.{read_replies, service_core}
use Rattle.dshot_bank_spec.specs.Calls.{take_replies, replied, State, replies_of}
use Rattle.dshot_bank_spec.specs.Steps.{port_refusal, step}
use Rattle.dshot_bank_spec.proofs.LaneLaws.{on, off}
use Rattle.dshot_bank_spec.proofs.Storing.{lane-stored, service-reads}

-- ---- one lane: `decode_replies`

-- how many replies were counted, valid or not
abbrev pub counted : LaneReply → ℕ
counted l = (l.valid + l.invalid) % 2 ^ 32

module _ (l : LaneReply) where
  -- a reply that is read is valid, and ends a row of invalid ones
  pub valid-counted : (r : Reading) → count_reply (Reply.given r) l
      ≡ record { reply = Reply.given r; valid = wrapping_add l.valid; invalid = l.invalid; consecutive_invalid = 0 }
  unfolding count_reply
  valid-counted r = refl

  -- one that is refused is invalid, and one more in a row
  pub invalid-counted : (k : ℕ) → count_reply (Reply.refused k) l
      ≡ record { reply = Reply.refused k; valid = l.valid; invalid = wrapping_add l.invalid; consecutive_invalid = saturating_add l.consecutive_invalid }
  unfolding count_reply
  invalid-counted k = refl

  -- either way just one more is counted
  pub one-counted : (a : Reply.Answer Reading) → counted (count_reply a l) ≡ (l.valid + l.invalid + 1) % 2 ^ 32
  unfolding count_reply
  one-counted (Reply.given r) =
      let e : l.valid + 1 + l.invalid ≡ l.valid + l.invalid + 1 = omega arith in
      mod-add-mod (l.valid + 1) (2 ^ 32) l.invalid ∙ ap (λ (k : ℕ). k % 2 ^ 32) e
  one-counted (Reply.refused k) =
      let e : l.valid + (l.invalid + 1) ≡ l.valid + l.invalid + 1 = omega arith in
      add-mod-mod l.valid (l.invalid + 1) (2 ^ 32) ∙ ap (λ (k : ℕ). k % 2 ^ 32) e

-- ---- a service

module _ (n now : ℕ) (taken present : List Bool) (masks samples : List ℕ) (replies : List LaneReply) (buffers : Buffers) (c : Core) where
  abbrev after : List LaneReply
  after = (service_core n now taken present masks samples replies buffers c).bank.replies

  reads-by : (b : Bool) → pick c.frame.faulted false (pick c.frame.busy false c.frame.replies_waiting) ≡ b
      → after ≡ read_replies n b present masks samples replies
  reads-by b e =
      service-reads n now taken present masks samples replies buffers c ∙ ap (λ (w : Bool). read_replies n w present masks samples replies) e

  -- one that reads counts just one reply more of each lane
  pub read-counts : c.frame.faulted ≡ false → c.frame.busy ≡ false → c.frame.replies_waiting ≡ true → (lane : ℕ) → lane < n
      → counted (get_or after lane no_replies) ≡ ((get_or replies lane no_replies).valid + (get_or replies lane no_replies).invalid + 1) % 2 ^ 32
  read-counts f b w lane l =
      ap (λ (r : List LaneReply). counted (get_or r lane no_replies)) (reads-by true (sym (off _ _ f (off _ _ b (sym w)))))
      ∙ ap counted (lane-stored n lane l true present masks samples replies)
      ∙ one-counted (get_or replies lane no_replies) _

  -- one that does not read leaves replies and counts: with a fault, with a frame in flight, or if none wait
  pub fault-counts-none : c.frame.faulted ≡ true → after ≡ replies
  unfolding read_replies
  fault-counts-none f = reads-by false (sym (on _ _ f refl))

  pub flight-counts-none : c.frame.faulted ≡ false → c.frame.busy ≡ true → after ≡ replies
  unfolding read_replies
  flight-counts-none f b = reads-by false (sym (off _ _ f (on _ _ b refl)))

  pub none-wait-none-counted : c.frame.faulted ≡ false → c.frame.busy ≡ false → c.frame.replies_waiting ≡ false → after ≡ replies
  unfolding read_replies
  none-wait-none-counted f b w = reads-by false (sym (off _ _ f (off _ _ b (sym w))))

-- ---- take_replies

module _ (n : ℕ) (s : State) where
  -- if some are held, the replies of every lane are handed out
  pub replies-told : s.bank.core.frame.replies_held ≡ true → (step n s take_replies).answer ≡ replied (some (replies_of s.bank.replies))
  unfolding step port_refusal
  replies-told e = ap replied (sym (on _ _ e refl))

  -- and none else
  pub none_told : s.bank.core.frame.replies_held ≡ false → (step n s take_replies).answer ≡ replied none
  unfolding step port_refusal
  none_told e = ap replied (sym (off _ _ e refl))

  -- once: after it none are held, so that a second take has none
  pub replies-once : (step n (step n s take_replies).state take_replies).answer ≡ replied none
  unfolding step port_refusal
  replies-once = refl

  -- and the counts stay
  pub taking-keeps : (step n s take_replies).state.bank.replies ≡ s.bank.replies
  unfolding step port_refusal
  taking-keeps = refl
