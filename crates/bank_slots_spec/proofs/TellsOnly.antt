-- The slots in which two lists of exported calls are compared: all except those that say something of the one lane. A claim that left more out would
-- not prove this.
-- Assumes nothing.
use mathlib.Core.Path.{◌≡◌, sym}
use mathlib.Core.Bool.{false, false≢true}
use mathlib.Core.List.{List}
use mathlib.Core.Option.{Option}
use Prim.Native.Nat.{ℕ, ◌+◌, ◌*◌, ◌<◌}
use native.Mathlib.Omega.{arith}
use Rattle.dshot_reply_spec.specs.Answer as Reply
use Rattle.dshot_reply_spec.specs.Value.{Reading}
use Rattle.dshot_bank_spec.specs.Calls.{Answer, done, refused, motor_sent, serviced, interrupted, replied, flag, counts, values, reply_counts, slots, ReplyStats}
use Rattle.dshot_bank_spec.proofs.HiddenLaws.{tells_replies}
use Rattle.bank_slots_spec.specs.Places.{REPLIES}
use Rattle.bank_slots_spec.specs.SlotClaims.{Tells, TellsSlot}

-- ---- answers

-- of replies that are taken: whether there are some, and the four slots of every other lane
pub first-compared : (lane : ℕ) (r : Option (List (Reply.Answer Reading))) → Tells lane (replied r) 0 → ⊥
first-compared lane r w = omega (arith, w)

pub taken-compared : (lane k j : ℕ) (r : Option (List (Reply.Answer Reading))) → (k ≡ lane → ⊥) → j < 4 → Tells lane (replied r) (1 + 4 * k + j) → ⊥
taken-compared lane k j r ne l w = omega (arith, w)

-- of the three kinds of reply counts: the two slots of every other lane
pub counts-compared : (lane k j kind : ℕ) (r : ReplyStats) → (k ≡ lane → ⊥) → k < 4 → j < 2 → Tells lane (reply_counts r) (8 * kind + 2 * k + j) → ⊥
counts-compared lane k j kind r ne h l w = omega (arith, w)

-- of any other answer: every slot
pub others-compared : (lane : ℕ) (a : Answer) (i : ℕ) → tells_replies a ≡ false → Tells lane a i → ⊥
others-compared lane done i e w = w
others-compared lane (refused number) i e w = w
others-compared lane (motor_sent m) i e w = w
others-compared lane (serviced x o s) i e w = w
others-compared lane (interrupted x o) i e w = w
others-compared lane (replied r) i e w = false≢true (sym e)
others-compared lane (flag b) i e w = w
others-compared lane (counts s) i e w = w
others-compared lane (values v) i e w = w
others-compared lane (reply_counts r) i e w = false≢true (sym e)
others-compared lane (slots l) i e w = w

-- ---- states

-- every slot before the replies, and the nine slots of every other lane
pub core-compared : (lane i : ℕ) → i < REPLIES → TellsSlot lane i → ⊥
core-compared lane i l w = omega (arith, w)

pub lanes-compared : (lane k j : ℕ) → (k ≡ lane → ⊥) → j < 9 → TellsSlot lane (REPLIES + 9 * k + j) → ⊥
lanes-compared lane k j ne l w = omega (arith, w)
