-- What one lane's captures may change, and lists of calls that differ only in one lane's captures.
-- The terms "alike" and "refused call" are document 01's.
-- Assumes nothing.
use Rattle.std.specs.Prelude.{ℕ, ◌+◌, ◌*◌, ◌<◌, ◌≤◌, ◌≡◌, Bool, false, List, [], ◌∷◌, length, get_or, set}
use Rattle.std.proofs.Math.Option.{Option, none, some}
use Rattle.dshot_reply_spec.specs.Refusals.{no_reply}
use Rattle.dshot_reply_spec.specs.Answer as Reply
use Rattle.dshot_reply_spec.specs.Value.{Reading}
use Rattle.dshot_bank_spec.specs.State.{LaneReply, Bank}
use Rattle.dshot_bank_spec.specs.Commands.{no_replies}
use Rattle.dshot_bank_spec.specs.Calls.{Call, service_call, ReplyStats, Answer, done, refused, motor_sent, serviced, interrupted, replied, flag, counts, values, reply_counts, slots, State, Stepped}

-- ---- what one lane's captures may change: the lane's record, and what an answer says of it

abbrev pub hide_replies : ℕ → List LaneReply → List LaneReply
hide_replies lane l = set l lane no_replies

abbrev pub hide_bank : ℕ → Bank → Bank
hide_bank lane b = record { core = b.core; replies = hide_replies lane b.replies }

abbrev pub hide_state : ℕ → State → State
hide_state lane s = record { bank = hide_bank lane s.bank; buffers = s.buffers }

abbrev pub hide_taken : ℕ → Option (List (Reply.Answer Reading)) → Option (List (Reply.Answer Reading))
hide_taken lane none = none
hide_taken lane (some l) = some (set l lane (Reply.refused no_reply))

abbrev pub hide_counts : ℕ → ReplyStats → ReplyStats
hide_counts lane r = record { valid = set r.valid lane 0; invalid = set r.invalid lane 0; consecutive_invalid = set r.consecutive_invalid lane 0 }

abbrev pub hide_answer : ℕ → Answer → Answer
hide_answer lane done = done
hide_answer lane (refused number) = refused number
hide_answer lane (motor_sent m) = motor_sent m
hide_answer lane (serviced e o s) = serviced e o s
hide_answer lane (interrupted e o) = interrupted e o
hide_answer lane (replied r) = replied (hide_taken lane r)
hide_answer lane (flag b) = flag b
hide_answer lane (counts s) = counts s
hide_answer lane (values v) = values v
hide_answer lane (reply_counts r) = reply_counts (hide_counts lane r)
hide_answer lane (slots l) = slots l

-- an answer and a state with one lane's replies and reply counts hidden
abbrev pub hide : ℕ → Stepped → Stepped
hide lane r = record { answer = hide_answer lane r.answer; state = hide_state lane r.state }

-- ---- lists that differ only in one lane's captures

-- two lists of calls of the same length, related call by call
pub data CallByCall (R : Call → Call → Type 0) : List Call → List Call → Type 0 where
  none_left : CallByCall R [] []
  one_more : {c c' : Call} {cs cs' : List Call} → R c c' → CallByCall R cs cs' → CallByCall R (c ∷ cs) (c' ∷ cs')

-- the masks and samples of two services, which may differ only in the lane's mask and window
pub record CapturesAlike (lane : ℕ) (m m' s s' : List ℕ) : Type 0 where
  pub long : length s ≡ length s'
  pub before : (i : ℕ) → i < 160 * lane → get_or s i 0 ≡ get_or s' i 0
  pub after : (i : ℕ) → 160 * lane + 160 ≤ i → get_or s i 0 ≡ get_or s' i 0
  pub masks : (i : ℕ) → (i ≡ lane → ⊥) → get_or m i 0 ≡ get_or m' i 0

-- Two calls are alike if they are the same, or if they are services that differ only in the lane's window and mask.
pub data Alike (lane : ℕ) : Call → Call → Type 0 where
  same : (c : Call) → Alike lane c c
  captured : (now : ℕ) (taken present : List Bool) {m m' s s' : List ℕ} → CapturesAlike lane m m' s s'
      → Alike lane (service_call now taken present m s) (service_call now taken present m' s')

abbrev pub AlikeAll : ℕ → List Call → List Call → Type 0
AlikeAll lane = CallByCall (Alike lane)

-- ---- lists that may also differ in whether that lane has a capture

-- Added to document 01's "alike", for a reply wire that is pulled. The two services may also differ in whether the lane's capture is present.
pub data WireAlike (lane : ℕ) : Call → Call → Type 0 where
  same_wired : (c : Call) → WireAlike lane c c
  wired : (now : ℕ) (taken : List Bool) {p p' : List Bool} {m m' s s' : List ℕ}
      → ((i : ℕ) → (i ≡ lane → ⊥) → get_or p i false ≡ get_or p' i false)
      → CapturesAlike lane m m' s s'
      → WireAlike lane (service_call now taken p m s) (service_call now taken p' m' s')

abbrev pub WireAlikeAll : ℕ → List Call → List Call → Type 0
WireAlikeAll lane = CallByCall (WireAlike lane)
