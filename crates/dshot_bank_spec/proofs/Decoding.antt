-- What a service that reads stores of three captures: one that renders a reply word, a damaged one, and one with a moved edge. It follows from the
-- reader's theorems.
-- Assumes nothing.
use mathlib.Core.Path.{◌∙◌, refl, sym, subst}
use mathlib.Core.Bool.{false}
use lib.Dec.{lit<}
use lib.ListN.{get_or}
use Rattle.dshot_reply_spec.proofs.Theorems.{reply-reads, damage-refused, moved-edge}
use Rattle.dshot_reply_spec.specs.Answer.{Rejected}
use Rattle.dshot_reply_spec.specs.Claims.{MovedEdge}
use Rattle.dshot_bank_spec.specs.Replies.{window}
use Rattle.dshot_bank_spec.specs.Claims.{Decodes}
use Rattle.dshot_bank_spec.proofs.LaneLaws.{on}
use Rattle.dshot_bank_spec.proofs.Storing.{stores}

pub decodes : Decodes
decodes n timing buffers calls now taken present masks samples lane h r l p =
    let x = window samples lane in
    let mask = get_or masks lane 0 in
    let is = (stores n timing buffers calls now taken present masks samples h).replies r lane l ∙ sym (on _ _ p refl) in
    record {
      rendered = λ v d. is ∙ reply-reads 3 (lit< tt) x mask false v d;
      damaged = λ v w' k m d. subst Rejected (sym is) (damage-refused 3 (lit< tt) x mask false v w' k m d);
      moved = λ v w' i j m d. subst (MovedEdge v w' false) (sym is) (moved-edge 3 (lit< tt) x mask false v w' i j m d);
    }
