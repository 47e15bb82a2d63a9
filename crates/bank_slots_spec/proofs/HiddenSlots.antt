-- Answers and states that are equal with one lane hidden have as many slots. They are equal in every slot that says nothing of that lane.
-- Assumes nothing.
use mathlib.Core.Path.{◌≡◌, ◌∙◌, refl, sym, ap, subst}
use mathlib.Core.List.{List, ◌∷◌, ◌++◌}
use mathlib.Core.Option.{Option, none, some}
use Prim.Native.Nat.{ℕ, zero, suc, ◌+◌, ◌-◌, ◌*◌, ◌<◌, ◌≤◌}
use native.Mathlib.Omega.{arith}
use native.Mathlib.Decide.{dec_lt}
use lib.ListN.{length, get_or, set, take, replicate, length-append, get_or-append, get_or-eq_default}
use lib.Seq.{get_or-append-add, get_or-set_other}
use Rattle.dshot_reply_spec.specs.Answer.{given, refused}
use Rattle.dshot_reply_spec.specs.Refusals.{no_reply}
use Rattle.dshot_reply_spec.specs.Answer as Reply
use Rattle.dshot_reply_spec.specs.Value.{Reading}
use Rattle.dshot_bank_spec.specs.State.{Core, LaneReply, Bank}
use Rattle.dshot_bank_spec.specs.Commands.{no_replies}
use Rattle.dshot_bank_spec.specs.Calls.{Answer, done, motor_sent, serviced, interrupted, replied, flag, counts, values, reply_counts, slots, ReplyStats}
use Rattle.dshot_bank_spec.specs.Calls as Call
use Rattle.dshot_bank_spec.proofs.HiddenLaws.{hidden-replies}
use Rattle.dshot_bank_spec.specs.Hide.{hide_answer, hide_taken, hide_counts, hide_bank}
use Rattle.bank_slots_spec.specs.Memory.{at, write}
use Rattle.bank_slots_spec.specs.Load.{four_lists}
use Rattle.bank_slots_spec.specs.Store.{reply_kind, reply_number, core_rows, store}
use Rattle.bank_slots_spec.specs.Called.{number}
use Rattle.bank_slots_spec.specs.Outs.{word_slots, reply_slots, replies_slots, reply_count_slots, out_after}
use Rattle.bank_slots_spec.specs.SlotClaims.{Within, Tells, TellsSlot}

-- ---- lists of parts

-- two lists of two parts, the first parts of one length
parts : (n i : ℕ) (a a' t t' : List ℕ) → length a ≡ n → length a' ≡ n → (i < n → at a i ≡ at a' i)
    → (n ≤ i → at t (i - n) ≡ at t' (i - n)) → at (a ++ t) i ≡ at (a' ++ t') i
parts n i a a' t t' l l' front back = side (dec_lt i n)
  where
    behind : (x y : List ℕ) → length x ≡ n → n ≤ i → at (x ++ y) i ≡ at y (i - n)
    behind x y h p = ap (at (x ++ y)) (omega arith) ∙ get_or-append-add x y (i - n) 0

    side : Dec (i < n) → at (a ++ t) i ≡ at (a' ++ t') i
    side (yes p) = get_or-append a t 0 i (omega arith) ∙ front p ∙ sym (get_or-append a' t' 0 i (omega arith))
    side (no q) = let p : n ≤ i = omega arith in behind a t l p ∙ back p ∙ sym (behind a' t' l' p)

-- four parts of n entries, the same except one lane's
module _ (lane n : ℕ) (f g : ℕ → List ℕ) (long : (k : ℕ) → length (f k) ≡ n) (long' : (k : ℕ) → length (g k) ≡ n)
    (other : (k : ℕ) → (k ≡ lane → ⊥) → f k ≡ g k) where
  -- part k, of whose entries the j-th is looked at
  part : (k j : ℕ) → (k ≡ lane → j < n → ⊥) → at (f k) j ≡ at (g k) j
  part k j h = side (dec_lt k lane) (dec_lt lane k) (dec_lt j n)
    where
      side : Dec (k < lane) → Dec (lane < k) → Dec (j < n) → at (f k) j ≡ at (g k) j
      side (yes p) q d = ap (λ (l : List ℕ). at l j) (other k (λ e. omega arith))
      side (no p) (yes q) d = ap (λ (l : List ℕ). at l j) (other k (λ e. omega arith))
      side (no p) (no q) (yes d) = absurd (h (omega arith) d)
      side (no p) (no q) (no d) = get_or-eq_default (f k) 0 (omega (arith, long k)) ∙ sym (get_or-eq_default (g k) 0 (omega (arith, long' k)))

  -- the j-th entry of the lane's part
  in-part : (k i j : ℕ) → k ≡ lane → n * k + j ≡ i → j < n → Within (n * lane) n i
  in-part k i j e h d = subst (λ (m : ℕ). Within (n * m) n i) e (omega arith, omega arith)

  pub four-parts : (i : ℕ) → (Within (n * lane) n i → ⊥) → at (four_lists f) i ≡ at (four_lists g) i
  four-parts i h =
      parts n i (f 0) (g 0) (f 1 ++ (f 2 ++ f 3)) (g 1 ++ (g 2 ++ g 3)) (long 0) (long' 0) (λ p. part 0 i (λ e d. h (in-part 0 i i e (omega arith) d)))
      (λ p. parts n (i - n) (f 1) (g 1) (f 2 ++ f 3) (g 2 ++ g 3) (long 1) (long' 1) (λ q. part 1 (i - n) (λ e d. h (in-part 1 i (i - n) e (omega arith) d)))
      (λ q. parts n (i - n - n) (f 2) (g 2) (f 3) (g 3) (long 2) (long' 2) (λ r. part 2 (i - n - n) (λ e d. h (in-part 2 i (i - n - n) e (omega arith) d)))
      (λ r. part 3 (i - n - n - n) (λ e d. h (in-part 3 i (i - n - n - n) e (omega arith) d)))))

-- ---- answers

reply-long : (a : Reply.Answer Reading) → length (reply_slots a) ≡ 4
reply-long (given r) = refl
reply-long (refused n) = refl

taken-long : (lane : ℕ) (r : Option (List (Reply.Answer Reading))) → length (replies_slots (hide_taken lane r)) ≡ length (replies_slots r)
taken-long lane none = refl
taken-long lane (some l) = ap suc (long (set l lane (refused no_reply)) ∙ sym (long l))
  where
    one : (q : List (Reply.Answer Reading)) (k : ℕ) → length (reply_slots (get_or q k (refused no_reply))) ≡ 4
    one q k = reply-long (get_or q k (refused no_reply))

    long : (q : List (Reply.Answer Reading)) → length (four_lists (λ (k : ℕ). reply_slots (get_or q k (refused no_reply)))) ≡ 16
    long q = simp length-append (omega (arith, one q 0, one q 1, one q 2, one q 3))

taken-told : (lane : ℕ) (r : Option (List (Reply.Answer Reading))) (i : ℕ) → (Tells lane (replied r) i → ⊥)
    → at (replies_slots (hide_taken lane r)) i ≡ at (replies_slots r) i
taken-told lane none i h = refl
taken-told lane (some l) zero h = refl
taken-told lane (some l) (suc i) h =
    four-parts lane 4 (λ (k : ℕ). reply_slots (get_or (set l lane (refused no_reply)) k (refused no_reply))) (λ (k : ℕ). reply_slots (get_or l k (refused no_reply)))
    (λ k. reply-long (get_or (set l lane (refused no_reply)) k (refused no_reply))) (λ k. reply-long (get_or l k (refused no_reply)))
    (λ k q. ap reply_slots (get_or-set_other l lane k (refused no_reply) (refused no_reply) q))
    i (λ w. h (omega (arith, w.0), omega (arith, w.1)))

-- one kind of count of the four lanes
abbrev told : List ℕ → List ℕ
told l = four_lists (λ (k : ℕ). word_slots (get_or l k 0))

count-told : (lane : ℕ) (l : List ℕ) (i : ℕ) → (Within (2 * lane) 2 i → ⊥) → at (told (set l lane 0)) i ≡ at (told l) i
count-told lane l i h =
    four-parts lane 2 (λ (k : ℕ). word_slots (get_or (set l lane 0) k 0)) (λ (k : ℕ). word_slots (get_or l k 0)) (λ k. refl) (λ k. refl)
    (λ k q. ap word_slots (get_or-set_other l lane k 0 0 q)) i h

counts-told : (lane : ℕ) (r : ReplyStats) (i : ℕ) → (Tells lane (reply_counts r) i → ⊥) → at (reply_count_slots (hide_counts lane r)) i ≡ at (reply_count_slots r) i
counts-told lane r i h =
    parts 8 i (told a') (told a) (told b' ++ told c') (told b ++ told c) refl refl (λ p. count-told lane a i (λ w. h (omega (arith, w))))
    (λ p. parts 8 (i - 8) (told b') (told b) (told c') (told c) refl refl (λ q. count-told lane b (i - 8) (λ w. h (omega (arith, w))))
    (λ q. last q (dec_lt (i - 8 - 8) 8)))
  where
    a : List ℕ
    a = r.valid

    b : List ℕ
    b = r.invalid

    c : List ℕ
    c = r.consecutive_invalid

    a' : List ℕ
    a' = set a lane 0

    b' : List ℕ
    b' = set b lane 0

    c' : List ℕ
    c' = set c lane 0

    last : 8 ≤ i - 8 → Dec (i - 8 - 8 < 8) → at (told c') (i - 8 - 8) ≡ at (told c) (i - 8 - 8)
    last q (yes d) = count-told lane c (i - 8 - 8) (λ w. h (omega (arith, w)))
    last q (no d) = get_or-eq_default (told c') 0 {n = i - 8 - 8} (omega arith) ∙ sym (get_or-eq_default (told c) 0 {n = i - 8 - 8} (omega arith))

-- a slot of an answer that says nothing of the lane
out-told : (lane : ℕ) (a : Answer) (out : List ℕ) (i : ℕ) → (Tells lane a i → ⊥) → at (out_after (hide_answer lane a) out) i ≡ at (out_after a out) i
unfolding out_after
out-told lane done out i h = refl
out-told lane (Call.refused n) out i h = refl
out-told lane (motor_sent m) out i h = refl
out-told lane (serviced e o s) out i h = refl
out-told lane (interrupted e o) out i h = refl
out-told lane (replied r) out i h = taken-told lane r i h
out-told lane (flag b) out i h = refl
out-told lane (counts s) out i h = refl
out-told lane (values v) out i h = refl
out-told lane (reply_counts r) out i h = counts-told lane r i h
out-told lane (slots l) out i h = refl

-- how many slots there are
out-long : (lane : ℕ) (a : Answer) (out : List ℕ) → length (out_after (hide_answer lane a) out) ≡ length (out_after a out)
unfolding out_after
out-long lane done out = refl
out-long lane (Call.refused n) out = refl
out-long lane (motor_sent m) out = refl
out-long lane (serviced e o s) out = refl
out-long lane (interrupted e o) out = refl
out-long lane (replied r) out = taken-long lane r
out-long lane (flag b) out = refl
out-long lane (counts s) out = refl
out-long lane (values v) out = refl
out-long lane (reply_counts r) out = refl
out-long lane (slots l) out = refl

-- A hidden answer also says which slots these are, and the number of a refusal.
tells-hidden : (lane : ℕ) (a : Answer) (i : ℕ) → Tells lane (hide_answer lane a) i ≡ Tells lane a i
tells-hidden lane done i = refl
tells-hidden lane (Call.refused n) i = refl
tells-hidden lane (motor_sent m) i = refl
tells-hidden lane (serviced e o s) i = refl
tells-hidden lane (interrupted e o) i = refl
tells-hidden lane (replied r) i = refl
tells-hidden lane (flag b) i = refl
tells-hidden lane (counts s) i = refl
tells-hidden lane (values v) i = refl
tells-hidden lane (reply_counts r) i = refl
tells-hidden lane (slots l) i = refl

hidden-number : (lane : ℕ) (a : Answer) → number (hide_answer lane a) ≡ number a
hidden-number lane done = refl
hidden-number lane (Call.refused n) = refl
hidden-number lane (motor_sent m) = refl
hidden-number lane (serviced e o s) = refl
hidden-number lane (interrupted e o) = refl
hidden-number lane (replied r) = refl
hidden-number lane (flag b) = refl
hidden-number lane (counts s) = refl
hidden-number lane (values v) = refl
hidden-number lane (reply_counts r) = refl
hidden-number lane (slots l) = refl

module _ (lane : ℕ) (a a' : Answer) (e : hide_answer lane a ≡ hide_answer lane a') where
  pub same_number : number a ≡ number a'
  same_number = sym (hidden-number lane a) ∙ ap number e ∙ hidden-number lane a'

  -- as many slots
  pub same-long : (out : List ℕ) → length (out_after a out) ≡ length (out_after a' out)
  same-long out = sym (out-long lane a out) ∙ ap (λ (x : Answer). length (out_after x out)) e ∙ out-long lane a' out

  pub same-told : (out : List ℕ) (i : ℕ) → (Tells lane a i → ⊥) → at (out_after a out) i ≡ at (out_after a' out) i
  same-told out i h =
      sym (out-told lane a out i h) ∙ ap (λ (x : Answer). at (out_after x out) i) e
      ∙ out-told lane a' out i (λ w. h (subst (λ (A : Type 0). A) tells w))
    where
      tells : Tells lane a' i ≡ Tells lane a i
      tells = sym (tells-hidden lane a' i) ∙ ap (λ (x : Answer). Tells lane x i) (sym e) ∙ tells-hidden lane a i

-- ---- a state in slots

-- the slots of a lane's reply and reply counts
abbrev lane_slots : LaneReply → List ℕ
lane_slots l =
    reply_kind l.reply
    ∷ (word_slots (reply_number l.reply) ++ (word_slots l.valid ++ (word_slots l.invalid ++ word_slots l.consecutive_invalid)))

abbrev lanes_slots : List LaneReply → List ℕ
lanes_slots l = four_lists (λ (k : ℕ). lane_slots (get_or l k no_replies))

-- those before them
abbrev core_slots : Core → List ℕ
core_slots c = take 61 (write (core_rows c) (replicate 97 0))

stored-parts : (b : Bank) → store b ≡ core_slots b.core ++ lanes_slots b.replies
unfolding store
stored-parts b = refl

pub same-slots : (lane : ℕ) (b b' : Bank) → hide_bank lane b ≡ hide_bank lane b' → (i : ℕ) → (TellsSlot lane i → ⊥) → at (store b) i ≡ at (store b') i
same-slots lane b b' e i h =
    ap (λ (l : List ℕ). at l i) (stored-parts b)
    ∙ parts 61 i (core_slots b.core) (core_slots b'.core) (lanes_slots b.replies) (lanes_slots b'.replies) refl refl
    (λ p. ap (λ (k : Bank). at (core_slots k.core) i) e)
    (λ p. four-parts lane 9 (λ (k : ℕ). lane_slots (get_or b.replies k no_replies)) (λ (k : ℕ). lane_slots (get_or b'.replies k no_replies))
    (λ k. refl) (λ k. refl)
    (λ k q. ap lane_slots (hidden-replies lane b.replies b'.replies (ap (λ (x : Bank). x.replies) e) k q))
    (i - 61) (λ w. h (omega (arith, p, w.0), omega (arith, p, w.1))))
    ∙ sym (ap (λ (l : List ℕ). at l i) (stored-parts b'))
