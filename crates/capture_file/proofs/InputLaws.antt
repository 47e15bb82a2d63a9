-- What a read puts into a buffer behind the bytes that are there. The readers of whole inputs cite it.
-- Assumes nothing.
use Rattle.std.proofs.Common.{◌≡◌, ℕ, ◌+◌, ◌-◌, ◌≤◌, Option, List, ◌++◌, arith, length, take, slice_range, sym, ap, ◌∙◌, subst, le_refl, drop_at, length-take-le}
use Rattle.std.proofs.lemmas.Slice.{take-put_mid_below}
use Rattle.std.specs.Io.KnownBytes.{Consumes}
use Rattle.std.proofs.KnownBytes.{Consumes-trans}
use borrow.Rule.Slice.PartMut.{put_mid, post_of}
use lib.Seq.{take-add, take-append-le}

-- bytes up to a place, and those from there on
take-split : (a b : ℕ) (old new : List ℕ) → a ≤ b → take a new ≡ take a old → take a old ++ slice_range new a b ≡ take b new
take-split a b old new h front =
    let same : a + (b - a) ≡ b = omega arith in
    ap (λ l. l ++ slice_range new a b) (sym front) ∙ sym (take-add a (b - a) new) ∙ ap (λ n. take n new) same

-- bytes that were put at a place stand there
put-there : (a k n : ℕ) (xs ys : List ℕ) → a ≤ length xs → n ≤ length ys → slice_range (put_mid a k xs ys) a (a + n) ≡ take n ys
put-there a k n xs ys within fits =
    let same : (a + n) - a ≡ n = omega arith in
    let after = post_of a k xs in
    ap (take ((a + n) - a)) (drop_at (take a xs) (ys ++ after) a (length-take-le a xs within)) ∙ ap (λ m. take m (ys ++ after)) same ∙ take-append-le n ys after fits

-- if the bytes so far and those of one more read are what the input gave, they are what it gave together
pub more-read : (old mid new : Option (List ℕ)) (from more : ℕ) (buffer read : List ℕ) → from ≤ length buffer → more ≤ length read
    → Consumes old mid (take from buffer) → Consumes mid new (take more read)
    → Consumes old new (take (from + more) (put_mid from (length buffer - from) buffer read))
more-read old mid new from more buffer read within fits before now =
    let room = length buffer - from in
    let part = put-there from room more buffer read within fits in
    let joined = take-split from (from + more) buffer (put_mid from room buffer read) (omega arith) (take-put_mid_below _ _ _ _ _ (le_refl _) within) in
    subst (Consumes old new) (ap (λ l. take from buffer ++ l) (sym part) ∙ joined) (Consumes-trans old mid new _ _ before now)
