-- What is claimed of every list of calls, with refused calls among them, for every number of lanes. Each list starts at a fresh bidirectional bank
-- with two buffers of any length and contents. "Alike", "renders", "damage" and "moved edge" are document 01's terms.
-- Assumes nothing.
use Rattle.std.specs.Prelude.{ℕ, ◌<◌, ◌≡◌, Bool, true, false, List, map, get_or, length, if◌then◌else◌}
use Rattle.dshot_reply_spec.specs.Answer.{Rejected}
use Rattle.dshot_reply_spec.specs.Answer as Reply
use Rattle.dshot_reply_spec.specs.Runs.{levels}
use Rattle.dshot_reply_spec.specs.Gcr.{reply_word}
use Rattle.dshot_reply_spec.specs.Value.{Reading, reply_of}
use Rattle.dshot_reply_spec.specs.Render.{Renders, Damaged}
use Rattle.dshot_reply_spec.specs.Move.{Moved}
use Rattle.dshot_reply_spec.specs.Claims.{MovedEdge}
use Rattle.dshot_spec.specs.Timing.{Timing}
use Rattle.dshot_bank_spec.specs.State.{Bank, Buffers}
use Rattle.dshot_bank_spec.specs.Commands.{no_replies}
use Rattle.dshot_bank_spec.specs.Replies.{window, read_window, count_reply}
use Rattle.dshot_bank_spec.specs.Calls.{Call, service_call, State, Stepped}
use Rattle.dshot_bank_spec.specs.Steps.{service_fits, step}
use Rattle.dshot_bank_spec.specs.Lists.{trace, run, source_run, fresh, is_refused, is_look, acting, acting_of, accepted, accepted_of}
use Rattle.dshot_bank_spec.specs.Hide.{hide, AlikeAll, WireAlikeAll}

-- 1: Two lists differ only in one lane's captures. After each call they give the same answer, bank and buffers, with that lane's reply and reply
-- counts hidden. The calls that only look change nothing, wherever they stand: without them, a list has the rest of its trace.
pub record Isolated : Type 0 where
  pub captures : (n lane : ℕ) (timing : Timing) (buffers : Buffers) (calls calls' : List Call) → AlikeAll lane calls calls'
      → map (hide lane) (trace n (fresh n timing buffers) calls) ≡ map (hide lane) (trace n (fresh n timing buffers) calls')
  -- The same holds if the lists may also differ in whether that lane has a capture. This is more than document 01 asks.
  pub wires : (n lane : ℕ) (timing : Timing) (buffers : Buffers) (calls calls' : List Call) → WireAlikeAll lane calls calls'
      → map (hide lane) (trace n (fresh n timing buffers) calls) ≡ map (hide lane) (trace n (fresh n timing buffers) calls')
  pub looks : (n : ℕ) (timing : Timing) (buffers : Buffers) (calls : List Call)
      → trace n (fresh n timing buffers) (acting calls) ≡ acting_of calls (trace n (fresh n timing buffers) calls)

-- A call that only looks leaves all as it was.
abbrev pub LooksKeep : Type 0
LooksKeep = (n : ℕ) (s : State) (c : Call) → is_look c ≡ true → (step n s c).state ≡ s

-- 2: A refused call leaves bank and buffers as they were.
abbrev pub RefusalsKeep : Type 0
RefusalsKeep = (n : ℕ) (s : State) (c : Call) → is_refused (step n s c).answer ≡ true → (step n s c).state ≡ s

-- Without its refused calls, a list has the rest of its trace.
abbrev pub RefusalsLeaveOut : Type 0
RefusalsLeaveOut = (n : ℕ) (s : State) (calls : List Call) → trace n s (accepted n s calls) ≡ accepted_of (trace n s calls)

-- ---- what a service stores

-- whether a service reads the windows of a bank: there is no fault, no frame is in flight, and replies wait
abbrev pub reads : State → Bool
reads s =
    if s.bank.core.frame.faulted then false else
    if s.bank.core.frame.busy then false else
    s.bank.core.frame.replies_waiting

-- whether the lent buffers and captures have the right lengths
abbrev pub fits : ℕ → State → List ℕ → Bool
fits n s samples = service_fits n (length s.buffers.first) (length s.buffers.second) (length samples)

-- a lane's reply
abbrev pub reply : Bank → ℕ → Reply.Answer Reading
reply b lane = (get_or b.replies lane no_replies).reply

module _ (n : ℕ) (timing : Timing) (buffers : Buffers) (calls : List Call) (now : ℕ) (taken present : List Bool) (masks samples : List ℕ) where
  -- The state before the service, which follows some calls. It is given by the source's calls, run over those of the calls that are not refused.
  abbrev pub before : State
  before = source_run n (fresh n timing buffers) (accepted n (fresh n timing buffers) calls)

  -- the service itself
  abbrev pub served : Stepped
  served = step n (run n (fresh n timing buffers) calls) (service_call now taken present masks samples)

  -- 3: The bank after the service. If the service reads, each lane's reply is exactly what the reader makes of its window and mask, and is counted.
  -- All replies are then there to be taken. If the service does not read, each lane's reply and counts stay.
  pub record Stored (after : Bank) : Type 0 where
    pub lanes : (lane : ℕ) → lane < n
        → get_or after.replies lane no_replies
        ≡ (if reads before
        then count_reply (read_window (get_or present lane false) (window samples lane) (get_or masks lane 0)) (get_or before.bank.replies lane no_replies)
        else get_or before.bank.replies lane no_replies)
    pub replies : reads before ≡ true → (lane : ℕ) → lane < n
        → reply after lane ≡ read_window (get_or present lane false) (window samples lane) (get_or masks lane 0)
    pub held : reads before ≡ true → after.core.frame.replies_held ≡ true

  -- 4: What a service that reads stores of a lane whose capture is present. If the capture renders a value's reply, it stores that value, or 11 (zero
  -- period). If the capture is damaged within one symbol, it stores a refusal of 7 to 10. If one edge has moved, it stores what the reader's theorem
  -- says.
  pub record Decoded (after : Bank) (lane : ℕ) : Type 0 where
    pub rendered : (v : ℕ) → Renders 3 (levels (get_or masks lane 0) (window samples lane)) (reply_word v) → reply after lane ≡ reply_of v false
    pub damaged : (v w' p : ℕ) → Damaged (reply_word v) w' p → Renders 3 (levels (get_or masks lane 0) (window samples lane)) w' → Rejected (reply after lane)
    pub moved : (v w' i j : ℕ) → Moved (reply_word v) w' i j → Renders 3 (levels (get_or masks lane 0) (window samples lane)) w'
        → MovedEdge v w' false (reply after lane)

-- the claim 3, for each service of each list, if the lent buffers have the right lengths
abbrev pub Stores : Type 0
Stores = (n : ℕ) (timing : Timing) (buffers : Buffers) (calls : List Call) (now : ℕ) (taken present : List Bool) (masks samples : List ℕ)
    → fits n (before n timing buffers calls now taken present masks samples) samples ≡ true
    → Stored n timing buffers calls now taken present masks samples (served n timing buffers calls now taken present masks samples).state.bank

-- the claim 4
abbrev pub Decodes : Type 0
Decodes = (n : ℕ) (timing : Timing) (buffers : Buffers) (calls : List Call) (now : ℕ) (taken present : List Bool) (masks samples : List ℕ) (lane : ℕ)
    → fits n (before n timing buffers calls now taken present masks samples) samples ≡ true
    → reads (before n timing buffers calls now taken present masks samples) ≡ true
    → lane < n → get_or present lane false ≡ true
    → Decoded n timing buffers calls now taken present masks samples (served n timing buffers calls now taken present masks samples).state.bank lane
