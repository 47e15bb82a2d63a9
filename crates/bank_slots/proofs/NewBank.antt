-- The slots of a new bank: the timing written over zeros, and then each lane's reply.
-- Assumes nothing.
use Rattle.std.proofs.Common.{◌≡◌, ℕ, ◌+◌, ◌*◌, List, set, slice_index_or, refl}
use Rattle.dshot_reply_spec.specs.Refusals.{no_reply}
use Rattle.dshot_bank_spec.specs.Lanes.{each}
use Rattle.bank_slots_spec.specs.Memory.{write}
use Rattle.bank_slots_spec.specs.Places.{REPLIES}
use Rattle.bank_slots_spec.specs.Load.{REFUSED}
use Rattle.bank_slots_spec.proofs.CommandMoves.{new_rows}

abbrev pub with_no_reply : ℕ → List ℕ → List ℕ
with_no_reply lane xs = set xs (REPLIES + 9 * lane) (REFUSED + no_reply)

-- the timing, slot by slot
abbrev pub with_timing : List ℕ → List ℕ → List ℕ
with_timing t xs = set (set (set (set xs 0 (slice_index_or t 0 0)) 1 (slice_index_or t 1 0)) 2 (slice_index_or t 2 0)) 3 (slice_index_or t 3 0)

pub new-written : (t zs : List ℕ) → each 4 with_no_reply (with_timing t zs) ≡ write (new_rows t) zs
unfolding each
new-written t zs = refl
