-- The contents that the library writes. The test looks only at slots whose contents can differ and still mean the same bank.
-- Added: document 01 asks for calls from C.
-- Assumes nothing.
use Rattle.std.specs.Prelude.{ℕ, ◌+◌, ◌≡◌, Bool, true, false, List, eqb, ltb, if◌then◌else◌}
use Rattle.bank_slots_spec.specs.Memory.{at, word}
use Rattle.bank_slots_spec.specs.Load.{is_refused_kind}
use Rattle.bank_slots_spec.specs.Places.{BUSY, FAULTED, BIDIRECTIONAL, RECEIVING, REPLIES_WAITING, REPLIES_HELD, IN_SECOND, REQUEST, REQUEST_SENT, RUN, REPLIES}

abbrev pub is_flag : ℕ → Bool
is_flag n = ltb n 2

abbrev pub is_choice : ℕ → Bool
is_choice n = ltb n 5

-- If there is no run, its slots are 0.
abbrev pub is_run : ℕ → ℕ → ℕ → ℕ → ℕ → Bool
is_run motor first second index left =
    if eqb motor 0 then (if eqb first 0 then (if eqb second 0 then (if eqb index 0 then eqb left 0 else false) else false) else false) else
    if ltb motor 5 then (if ltb index 256 then ltb left 256 else false) else false

-- whether a reply of this kind may have this number
abbrev pub is_reply : ℕ → ℕ → Bool
is_reply kind n =
    if eqb kind 0 then true else
    if ltb kind 8 then ltb n 256 else
    if eqb kind 8 then eqb n 0 else
    if is_refused_kind kind then eqb n 0 else
    false

module _ (m : ℕ → ℕ) where
  abbrev pub FlagsWritten : Type 0
  FlagsWritten =
      (is_flag (m BUSY) ≡ true)
      × (is_flag (m FAULTED) ≡ true)
      × (is_flag (m BIDIRECTIONAL) ≡ true)
      × (is_flag (m RECEIVING) ≡ true)
      × (is_flag (m REPLIES_WAITING) ≡ true)
      × (is_flag (m REPLIES_HELD) ≡ true)

  abbrev pub MarksWritten : Type 0
  MarksWritten =
      (is_flag (m IN_SECOND) ≡ true)
      × (is_flag (m (IN_SECOND + 1)) ≡ true)
      × (is_flag (m (IN_SECOND + 2)) ≡ true)
      × (is_flag (m (IN_SECOND + 3)) ≡ true)

  abbrev pub RequestsWritten : Type 0
  RequestsWritten =
      (is_choice (m REQUEST) ≡ true)
      × (is_choice (m REQUEST_SENT) ≡ true)
      × (is_run (m RUN) (m (RUN + 1)) (m (RUN + 2)) (m (RUN + 3)) (m (RUN + 4)) ≡ true)

  abbrev pub ReplyWritten : ℕ → Type 0
  ReplyWritten k = is_reply (m k) (word (k + 1) m) ≡ true

  abbrev pub RepliesWritten : Type 0
  RepliesWritten = ReplyWritten REPLIES × ReplyWritten (REPLIES + 9) × ReplyWritten (REPLIES + 18) × ReplyWritten (REPLIES + 27)

  abbrev pub WrittenAt : Type 0
  WrittenAt = FlagsWritten × (MarksWritten × (RequestsWritten × RepliesWritten))

-- The library writes such contents.
unfoldable pub Written : List ℕ → Type 0
Written xs = WrittenAt (at xs)
