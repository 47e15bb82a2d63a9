-- The windows of the four lanes read and counted, one lane after another.
-- Assumes nothing.
use Rattle.std.proofs.Common.{◌≡◌, ℕ, ◌+◌, ◌*◌, List, length, get_or, refl}
use Rattle.dshot_bank_spec.specs.State.{Bank}
use Rattle.dshot_bank_spec.specs.Lanes.{each}
use Rattle.dshot_bank_spec.specs.Replies.{window, read_window, count_reply, decode_replies}
use Rattle.bank_slots_spec.specs.Memory.{at, write}
use Rattle.bank_slots_spec.specs.Places.{slots, REPLIES}
use Rattle.bank_slots_spec.specs.Load.{flag, lane_from}
use Rattle.bank_slots_spec.specs.Store.{lane_rows}
use Rattle.bank_slots_spec.specs.Moves.{Moves}
use Rattle.bank_slots_spec.specs.Arguments.{present, masks}
use Rattle.bank_slots_spec.specs.Parts.{with_replies}
use Rattle.bank_slots_spec.proofs.ReplyMoves.{replies-decoded}

module _ (lanes captures : List ℕ) where
  -- the slots after a lane's window is read and counted
  abbrev pub lane_read : ℕ → List ℕ → List ℕ
  lane_read lane xs =
      let k = REPLIES + 9 * lane in
      write (lane_rows k (count_reply (read_window (flag (get_or lanes (4 + lane) 0)) (window captures lane) (get_or lanes (8 + lane) 0)) (lane_from k (at xs)))) xs

  pub all-read : (xs : List ℕ) → length xs ≡ slots → Moves (λ (b : Bank). with_replies (decode_replies 4 (present lanes) (masks lanes) captures b.replies) b) xs (each 4 lane_read xs)
  unfolding each
  all-read xs n = replies-decoded lanes captures n refl refl refl refl
