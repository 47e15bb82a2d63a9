-- The counts of the replies copied into an answer, and the replies handed out: one lane after another.
-- Assumes nothing.
use Rattle.std.proofs.Common.{◌≡◌, ℕ, ◌+◌, ◌*◌, Bool, List, length, set, refl, if◌then◌else◌}
use Rattle.dshot_reply_spec.specs.Answer.{refused}
use Rattle.dshot_reply_spec.specs.Refusals.{no_reply}
use Rattle.dshot_bank_spec.specs.Lanes.{each}
use Rattle.dshot_bank_spec.specs.Calls.{reply_stats}
use Rattle.bank_slots_spec.specs.Memory.{at, write, word, word_rows}
use Rattle.bank_slots_spec.specs.Places.{slots, REPLIES, REPLIES_HELD}
use Rattle.bank_slots_spec.specs.Load.{flag, reply}
use Rattle.bank_slots_spec.specs.Store.{bit}
use Rattle.bank_slots_spec.specs.Outs.{reply_slots}
use Rattle.bank_slots_spec.specs.Parts.{slot_rows}
use Rattle.bank_slots_spec.proofs.LookLaws.{Looks, reply-stats-told, Taken, replies-taken}

module _ (xs : List ℕ) where
  -- one count of a lane, and one count of all lanes
  abbrev pub count_copied : ℕ → ℕ → List ℕ → List ℕ
  count_copied count lane out = write (word_rows (8 * count + 2 * lane) (word (REPLIES + 9 * lane + 3 + 2 * count) (at xs))) out

  abbrev pub counts_copied : ℕ → List ℕ → List ℕ
  counts_copied count = each 4 (count_copied count)

  -- a lane's reply; if none are held, it is no reply
  abbrev pub reply_handed : Bool → ℕ → List ℕ → List ℕ
  reply_handed held lane out =
      let from = REPLIES + 9 * lane in
      write (slot_rows (1 + 4 * lane) (reply_slots (if held then reply (at xs from) (word (from + 1) (at xs)) else refused no_reply))) out

  module _ (out : List ℕ) (n : length xs ≡ slots) where
    pub all-copied : length out ≡ 24 → Looks reply_stats 24 xs out (each 3 counts_copied out) 0
    unfolding each
    all-copied l = reply-stats-told xs out n l refl refl refl refl refl refl refl refl refl refl refl refl

    pub all-handed : {held : Bool} → length out ≡ 17 → held ≡ flag (at xs REPLIES_HELD) → Taken xs out (set xs REPLIES_HELD 0) (each 4 (reply_handed held) (set out 0 (bit held))) 0
    unfolding each
    all-handed l e = replies-taken xs out n l e refl refl refl refl
