-- What is equal with one lane hidden is equal in every other lane. This holds of stored replies and counts, of replies that are handed out, and of
-- counts in an answer. All else of a state, and every other answer, is equal.
-- Assumes nothing.
use mathlib.Core.Path.{◌≡◌, ◌∙◌, refl, sym, ap}
use mathlib.Core.Bool.{Bool, true, false}
use mathlib.Core.List.{List}
use mathlib.Core.Option.{none, some, none-ne-some, some-injective}
use Prim.Native.Nat.{ℕ}
use lib.ListN.{length, get_or, set, length-set}
use lib.Seq.{get_or-set_other}
use Rattle.dshot_reply_spec.specs.Refusals.{no_reply}
use Rattle.dshot_reply_spec.specs.Answer as Reply
use Rattle.dshot_reply_spec.specs.Value.{Reading}
use Rattle.dshot_bank_spec.specs.State.{LaneReply}
use Rattle.dshot_bank_spec.specs.Commands.{no_replies}
use Rattle.dshot_bank_spec.specs.Calls.{ReplyStats, Answer, done, refused, motor_sent, serviced, interrupted, replied, flag, counts, values, reply_counts, slots, State}
use Rattle.dshot_bank_spec.specs.Hide.{hide_replies, hide_taken, hide_counts, hide_state, hide_answer}

-- two lists, with one entry replaced in both
pub hidden-rest : {A : Type 0} (lane : ℕ) (x d : A) (l m : List A) → set l lane x ≡ set m lane x → (k : ℕ) → (k ≡ lane → ⊥) → get_or l k d ≡ get_or m k d
hidden-rest {A} lane x d l m e k ne = sym (get_or-set_other l lane k x d ne) ∙ ap (λ (q : List A). get_or q k d) e ∙ get_or-set_other m lane k x d ne

-- the records of the lanes
pub hidden-replies : (lane : ℕ) (l m : List LaneReply) → hide_replies lane l ≡ hide_replies lane m
    → (k : ℕ) → (k ≡ lane → ⊥) → get_or l k no_replies ≡ get_or m k no_replies
hidden-replies lane = hidden-rest lane no_replies no_replies

-- the replies that are handed out: there are some in both, or in none
pub hidden_taken : (lane : ℕ) (l m : List (Reply.Answer Reading)) → hide_taken lane (some l) ≡ hide_taken lane (some m)
    → (k : ℕ) → (k ≡ lane → ⊥) → get_or l k (Reply.refused no_reply) ≡ get_or m k (Reply.refused no_reply)
hidden_taken lane l m e = hidden-rest lane (Reply.refused no_reply) (Reply.refused no_reply) l m (some-injective _ _ e)

pub hidden-none : (lane : ℕ) (l : List (Reply.Answer Reading)) → hide_taken lane none ≡ hide_taken lane (some l) → ⊥
hidden-none lane l e = none-ne-some _ e

-- the counts in an answer
pub record SameCounts (k : ℕ) (r q : ReplyStats) : Type 0 where
  pub valid : get_or r.valid k 0 ≡ get_or q.valid k 0
  pub invalid : get_or r.invalid k 0 ≡ get_or q.invalid k 0
  pub consecutive_invalid : get_or r.consecutive_invalid k 0 ≡ get_or q.consecutive_invalid k 0

pub hidden-counts : (lane : ℕ) (r q : ReplyStats) → hide_counts lane r ≡ hide_counts lane q → (k : ℕ) → (k ≡ lane → ⊥) → SameCounts k r q
hidden-counts lane r q e k ne = record {
  valid = hidden-rest lane 0 0 r.valid q.valid (ap (λ (x : ReplyStats). x.valid) e) k ne;
  invalid = hidden-rest lane 0 0 r.invalid q.invalid (ap (λ (x : ReplyStats). x.invalid) e) k ne;
  consecutive_invalid = hidden-rest lane 0 0 r.consecutive_invalid q.consecutive_invalid (ap (λ (x : ReplyStats). x.consecutive_invalid) e) k ne;
}

-- ---- all else

-- two states that differ only in the lane's record
pub record SameElse (lane : ℕ) (s s' : State) : Type 0 where
  pub core : s.bank.core ≡ s'.bank.core
  pub buffers : s.buffers ≡ s'.buffers
  pub lanes : length s.bank.replies ≡ length s'.bank.replies
  pub others : (k : ℕ) → (k ≡ lane → ⊥) → get_or s.bank.replies k no_replies ≡ get_or s'.bank.replies k no_replies

pub hidden-state : (lane : ℕ) (s s' : State) → hide_state lane s ≡ hide_state lane s' → SameElse lane s s'
hidden-state lane s s' e =
    let h = ap (λ (x : State). x.bank.replies) e in
    record {
      core = ap (λ (x : State). x.bank.core) e;
      buffers = ap (λ (x : State). x.buffers) e;
      lanes = sym (length-set s.bank.replies lane no_replies) ∙ ap length h ∙ length-set s'.bank.replies lane no_replies;
      others = hidden-replies lane s.bank.replies s'.bank.replies h;
    }

-- whether an answer has replies or their counts
abbrev pub tells_replies : Answer → Bool
tells_replies done = false
tells_replies (refused number) = false
tells_replies (motor_sent m) = false
tells_replies (serviced e o s) = false
tells_replies (interrupted e o) = false
tells_replies (replied r) = true
tells_replies (flag b) = false
tells_replies (counts s) = false
tells_replies (values v) = false
tells_replies (reply_counts r) = true
tells_replies (slots l) = false

-- hiding keeps that, and all of the others
abbrev Kept : ℕ → Answer → Type 0
Kept lane a = (tells_replies (hide_answer lane a) ≡ tells_replies a) × (tells_replies a ≡ false → hide_answer lane a ≡ a)

kept : (lane : ℕ) (a : Answer) → Kept lane a
kept lane done = (refl, λ h. refl)
kept lane (refused number) = (refl, λ h. refl)
kept lane (motor_sent m) = (refl, λ h. refl)
kept lane (serviced e o s) = (refl, λ h. refl)
kept lane (interrupted e o) = (refl, λ h. refl)
kept lane (replied r) = (refl, λ h. cc)
kept lane (flag b) = (refl, λ h. refl)
kept lane (counts s) = (refl, λ h. refl)
kept lane (values v) = (refl, λ h. refl)
kept lane (reply_counts r) = (refl, λ h. cc)
kept lane (slots l) = (refl, λ h. refl)

-- so such answers are equal
pub hidden-answer : (lane : ℕ) (a a' : Answer) → tells_replies a ≡ false → hide_answer lane a ≡ hide_answer lane a' → a ≡ a'
hidden-answer lane a a' h e =
    let h' = sym (kept lane a').0 ∙ ap tells_replies (sym e) ∙ (kept lane a).0 ∙ h in
    sym ((kept lane a).1 h) ∙ e ∙ (kept lane a').1 h'
