-- What a lane's record stands for, among those of all lanes.
-- Assumes nothing.
use Rattle.std.proofs.Common.{◌≡◌, ℕ, zero, suc, ◌<◌, List, [], ◌∷◌, length, get_or, ap, arith}
use Rattle.dshot_bank_spec.specs.Commands.{no_replies}
use Rattle.dshot_bank.specs.declared.LaneReply.{LaneReply}
use Rattle.dshot_bank.specs.States.{lane_reply_of, replies_of}

pub lane_at : (l : List LaneReply) (i : ℕ) (x : LaneReply) → get_or l i x ≡ x → i < length l → get_or (replies_of l) i no_replies ≡ lane_reply_of x
lane_at [] i x e h = absurd (omega arith)
lane_at (y ∷ l) zero x e h = ap lane_reply_of e
lane_at (y ∷ l) (suc i) x e h = lane_at l i x e (omega arith)
