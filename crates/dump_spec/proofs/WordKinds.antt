-- The kind of a word is what the relation says, and nothing else has that kind.
-- Assumes nothing.
use mathlib.Core.Path.{◌≡◌, refl, sym, ap, ◌∙◌, subst}
use mathlib.Core.Logic.{◌⊎◌, inl, inr, ⊎_elim}
use mathlib.Core.Bool.{Bool, true, false, true≢false}
use mathlib.Core.List.{List, [], ◌∷◌}
use Prim.Native.Nat.{ℕ, ◌<◌}
use lib.Dec.{eqb, ltb}
use borrow.Author.Tests.{eqb-true, ltb-true, lt-ltb}
use Rattle.dshot_reply_spec.specs.Answer.{given, refused, pick}
use Rattle.dshot_reply_spec.specs.Refusals.{broken_dump}
use Rattle.dump_spec.specs.Words.{Word, same, is_code}
use Rattle.dump_spec.specs.Numbers.{is_number, value_from, time_limit, clipped, number_of, is_real}
use Rattle.dump_spec.specs.Kinds as K
use Rattle.dump_spec.specs.Kinds.{Kind, Keyword, keywords, keyword_of, time_kind, is_value, level_of, is_b, is_digits, is_r, kind_of}
use Rattle.dump_spec.specs.Grammar as G
use Rattle.dump_spec.specs.Grammar.{Listed, Is}
use Rattle.dump_spec.proofs.Choices.{on, off, either, same-eq}

-- ---- what has a kind is in the relation

-- what is known of a word by its kind; nothing, if it is of none
abbrev pub Seen : Kind → Word → Type 0
Seen K.comment w = Is K.comment w
Seen K.note w = Is K.note w
Seen K.timescale w = Is K.timescale w
Seen K.scope w = Is K.scope w
Seen K.upscope w = Is K.upscope w
Seen K.var w = Is K.var w
Seen K.enddefinitions w = Is K.enddefinitions w
Seen K.block w = Is K.block w
Seen K.vector w = Is K.vector w
Seen K.real w = Is K.real w
Seen K.other w = Unit {0}
Seen (K.time t) w = Is (K.time t) w
Seen (K.change l c) w = Is (K.change l c) w

to-seen : (k : Kind) (w : Word) → Is k w → Seen k w
to-seen K.comment w h = h
to-seen K.note w h = h
to-seen K.timescale w h = h
to-seen K.scope w h = h
to-seen K.upscope w h = h
to-seen K.var w h = h
to-seen K.enddefinitions w h = h
to-seen K.block w h = h
to-seen K.vector w h = h
to-seen K.real w h = h
to-seen K.other w h = tt
to-seen (K.time t) w h = h
to-seen (K.change l c) w h = h

pick-seen : (t : Bool) (x y : Kind) (w : Word) → (t ≡ true → Seen x w) → (t ≡ false → Seen y w) → Seen (pick t x y) w
pick-seen true x y w f g = f refl
pick-seen false x y w f g = g refl

-- one of the last keywords is one of all
keyword-seen : (ks : List Keyword) (w : Word) → ((x : Kind) → Listed ks w x → Listed keywords w x) → Seen (keyword_of ks w) w
keyword-seen [] w up = tt
keyword-seen (k ∷ ks) w up =
    pick-seen (same w k.word) k.kind (keyword_of ks w) w
    (λ e. to-seen k.kind w (G.keyword (up k.kind (subst (λ (v : Word). Listed (k ∷ ks) v k.kind) (sym (same-eq w k.word e)) G.here))))
    (λ e. keyword-seen ks w (λ x l. up x (G.there l)))

-- a number from 2^62 on is given as 2^62, which is no time
limited-seen : (w : Word) (t : Bool) → is_number w ≡ true → ltb (value_from 0 w) time_limit ≡ t
    → Seen (time_kind (given (pick t (value_from 0 w) time_limit))) (35 ∷ w)
limited-seen w true n e =
    pick-seen (ltb (value_from 0 w) time_limit) (K.time (value_from 0 w)) K.other (35 ∷ w) (λ h. G.time n (ltb-true (value_from 0 w) time_limit h)) (λ h. tt)
limited-seen w false n e = tt

time-seen : (w : Word) → Seen (time_kind (number_of w)) (35 ∷ w)
unfolding number_of
time-seen w = go (is_number w) refl
  where
    go : (t : Bool) → is_number w ≡ t → Seen (time_kind (pick t (given (clipped (value_from 0 w))) (refused broken_dump))) (35 ∷ w)
    go true e = limited-seen w (ltb (value_from 0 w) time_limit) e refl
    go false e = tt

pub seen : (w : Word) → Seen (kind_of w) w
unfolding kind_of
seen [] = tt
seen (b ∷ w) =
    pick-seen (eqb b 36) (keyword_of keywords (b ∷ w)) _ (b ∷ w)
    (λ e. keyword-seen keywords (b ∷ w) (λ x l. l))
    (λ n. pick-seen (eqb b 35) (time_kind (number_of w)) _ (b ∷ w)
    (λ e. subst (λ (x : ℕ). Seen (time_kind (number_of w)) (x ∷ w)) (sym (eqb-true b 35 e)) (time-seen w))
    (λ n. pick-seen (is_value b) (pick (is_code w) (K.change (level_of b) w) K.other) _ (b ∷ w)
    (λ v. pick-seen (is_code w) (K.change (level_of b) w) K.other (b ∷ w) (λ c. G.change v c) (λ c. tt))
    (λ n. pick-seen (is_b b) (pick (is_digits w) K.vector K.other) _ (b ∷ w)
    (λ v. pick-seen (is_digits w) K.vector K.other (b ∷ w) (λ d. G.vector v d) (λ d. tt))
    (λ n. pick-seen (is_r b) (pick (is_real w) K.real K.other) K.other (b ∷ w)
    (λ v. pick-seen (is_real w) K.real K.other (b ∷ w) (λ d. G.real v d) (λ d. tt))
    (λ n. tt)))))

-- ---- what is in the relation has that kind

-- each of some keywords has its kind
abbrev Kept : List Keyword → Type 0
Kept [] = Unit {0}
Kept (k ∷ ks) = (kind_of k.word ≡ k.kind) × Kept ks

listed-kind : {ks : List Keyword} {w : Word} {k : Kind} → Listed ks w k → Kept ks → kind_of w ≡ k
listed-kind G.here h = h.0
listed-kind (G.there l) h = listed-kind l h.1

keywords-kept : Kept keywords
unfolding kind_of
keywords-kept = (refl, (refl, (refl, (refl, (refl, (refl, (refl, (refl, (refl, (refl, (refl, (refl, tt))))))))))))

time-kind : (w : Word) → is_number w ≡ true → value_from 0 w < time_limit → kind_of (35 ∷ w) ≡ K.time (value_from 0 w)
unfolding kind_of number_of
time-kind w n h =
    let e = lt-ltb (value_from 0 w) time_limit h in
    ap time_kind (on _ _ n) ∙ ap (λ (v : ℕ). time_kind (given v)) (on _ _ e) ∙ on _ _ e

-- a byte that passes a test is no byte that fails it
no_byte : (p : ℕ → Bool) (b n : ℕ) → p b ≡ true → p n ≡ false → eqb b n ≡ false
no_byte p b n v z = ⊎_elim (λ e. absurd (true≢false (sym v ∙ ap p (eqb-true b n e) ∙ z))) (λ e. e) (either (eqb b n))

change-kind : (b : ℕ) (w : Word) → is_value b ≡ true → is_code w ≡ true → kind_of (b ∷ w) ≡ K.change (level_of b) w
unfolding kind_of is_value
change-kind b w v c = off _ _ (no_byte is_value b 36 v refl) ∙ off _ _ (no_byte is_value b 35 v refl) ∙ on _ _ v ∙ on _ _ c

-- a byte is one of the two that a test is for
one_of_two : (b m n : ℕ) → pick (eqb b m) true (eqb b n) ≡ true → (b ≡ m) ⊎ (b ≡ n)
one_of_two b m n h = ⊎_elim (λ e. inl (eqb-true b m e)) (λ e. inr (eqb-true b n (sym (off _ _ e) ∙ h))) (either (eqb b m))

vector-kind : (b : ℕ) (w : Word) → is_b b ≡ true → is_digits w ≡ true → kind_of (b ∷ w) ≡ K.vector
unfolding kind_of is_value is_b
vector-kind b w v d = ⊎_elim (λ e. rw e (on _ _ d)) (λ e. rw e (on _ _ d)) (one_of_two b 98 66 v)

real-kind : (b : ℕ) (w : Word) → is_r b ≡ true → is_real w ≡ true → kind_of (b ∷ w) ≡ K.real
unfolding kind_of is_value is_b is_r
real-kind b w v d = ⊎_elim (λ e. rw e (on _ _ d)) (λ e. rw e (on _ _ d)) (one_of_two b 114 82 v)

pub is-kind : {k : Kind} {w : Word} → Is k w → kind_of w ≡ k
is-kind (G.keyword l) = listed-kind l keywords-kept
is-kind (G.time {w = w} n h) = time-kind w n h
is-kind (G.change {b = b} {w = w} v c) = change-kind b w v c
is-kind (G.vector {b = b} {w = w} v d) = vector-kind b w v d
is-kind (G.real {b = b} {w = w} v d) = real-kind b w v d
