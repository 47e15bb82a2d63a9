-- What demand 3 claims of a capture whose word has one moved edge. It says when the capture is taken, and that no other is taken.
-- Assumes nothing.
use Rattle.std.specs.Prelude.{ℕ, ◌≡◌, Bool}
use Rattle.dshot_reply_spec.specs.Answer.{Answer, Rejected}
use Rattle.dshot_reply_spec.specs.Gcr.{reply_word}
use Rattle.dshot_reply_spec.specs.Value.{Reading, reply_of}
use Rattle.dshot_reply_spec.specs.Move.{Turned, word_value, Formed}

-- The word w' is the reply word of v with one edge moved; `answer` is what a capture of w' reads as. If two neighbouring nibbles turn, w' is the
-- reply word of the value that they form, and the capture reads as that value. If none turn, w' is the reply word of no value, and the capture is
-- refused. The last two fields say the same in the other direction.
pub record MovedEdge (v w' : ℕ) (extended : Bool) (answer : Answer Reading) : Type 0 where
  pub taken : Turned (reply_word v) w' → Formed v (word_value w') w' × (answer ≡ reply_of (word_value w') extended)
  pub refusal : (Turned (reply_word v) w' → ⊥) → Rejected answer × ((x : ℕ) → w' ≡ reply_word x → ⊥)
  pub only_taken : (Rejected answer → ⊥) → Turned (reply_word v) w'
  pub only_refused : Rejected answer → Turned (reply_word v) w' → ⊥
