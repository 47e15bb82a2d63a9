-- Times and changes that are walked to the end of the text have a derivation, with those contents.
-- Assumes nothing.
use mathlib.Core.Path.{◌≡◌, refl}
use mathlib.Core.Bool.{Bool, true, false, true≢false}
use mathlib.Core.List.{List, [], ◌∷◌}
use Prim.Native.Nat.{ℕ}
use Rattle.dshot_reply_spec.specs.Answer.{pick}
use Rattle.dump_spec.specs.Words.{Word, Placed, is_end, is_name}
use Rattle.dump_spec.specs.Kinds as K
use Rattle.dump_spec.specs.Kinds.{Kind, kind_of}
use Rattle.dump_spec.specs.Walk as W
use Rattle.dump_spec.specs.Walk.{Body, BodyMode, BodyStep, wants, item_step, block_step, body_step, at_end, body_then, walk_body}
use Rattle.dump_spec.specs.Grammar as G
use Rattle.dump_spec.specs.Grammar.{Is, Text, Item, Skipped, Block, Items, body_of}
use Rattle.dump_spec.proofs.WordKinds.{Seen, seen}

-- ---- what must follow, by what is due

-- a first word of some sort, and words after it of some sort
abbrev pub Then : (Word → Type 0) → (List Placed → Type 0) → List Placed → Type 0
Then P Q [] = ⊥
Then P Q (w ∷ ws) = P w.bytes × Q ws

abbrev pub End : Word → Type 0
End w = is_end w ≡ true

abbrev pub Name : Word → Type 0
Name w = is_name w ≡ true

-- text up to `$end`, and words after it of some sort
pub record AfterText (P : List Placed → Type 0) (ws : List Placed) : Type 0 where
  pub rest : List Placed
  pub skipped : Text ws rest
  pub then : P rest

-- A word of a text. F says what must follow by what is due: m after the text, and k in it.
pub text_in : {M : Type 0} (F : M → List Placed → Type 0) (m k : M) (w : Placed) (ws : List Placed) (t : Bool) → is_end w.bytes ≡ t
    → (F k ws → AfterText (F m) ws) → F (pick t m k) ws → AfterText (F m) (w ∷ ws)
text_in F m k w ws true e more h = record { rest = ws; skipped = G.ends e; then = h }
text_in F m k w ws false e more h = let d = more h in record { rest = d.rest; skipped = G.goes e d.skipped; then = d.then }

-- changes of a block up to its `$end`, and items after it
pub record InBlock (is : List Item) (ws : List Placed) : Type 0 where
  pub rest : List Placed
  pub others : List Item
  pub inside : Block ws is rest others
  pub then : Items rest others

abbrev pub BodyFrom : BodyMode → List Item → List Placed → Type 0
BodyFrom W.ending is = Then End (λ r. Items r is)
BodyFrom W.items is = λ r. Items r is
BodyFrom W.text is = AfterText (λ r. Items r is)
BodyFrom W.in_block is = InBlock is
BodyFrom W.item_code is = Then Name (λ r. Items r is)
BodyFrom W.block_code is = Then Name (InBlock is)

-- what must follow a word at a place
abbrev After : BodyStep → ℕ → List Item → List Placed → Type 0
After (W.goes m) p is ws = BodyFrom m is ws
After (W.times t) p is ws = (others : List Item) × (is ≡ G.clock t p ∷ others) × Items ws others
After (W.changes l c m) p is ws = (others : List Item) × (is ≡ G.value l c ∷ others) × BodyFrom m others ws
After (W.breaks cause) p is ws = ⊥

-- ---- one word more

wanted : (t : Bool) (m : BodyMode) (cause p : ℕ) (is : List Item) (ws : List Placed) → After (wants t m cause) p is ws → (t ≡ true) × BodyFrom m is ws
wanted true m cause p is ws h = (refl, h)
wanted false m cause p is ws h = absurd h

skipped-in : (is : List Item) (w : Placed) (ws : List Placed) → Skipped w.bytes → Then Name (λ r. Items r is) ws → Items (w ∷ ws) is
skipped-in is w [] s h = absurd h
skipped-in is w (c ∷ ws) s h = G.skipped s h.0 h.1

item_in : (k : Kind) (is : List Item) (w : Placed) (ws : List Placed) → Seen k w.bytes → After (item_step w.bytes k) w.at is ws → Items (w ∷ ws) is
item_in K.comment is w ws i h = G.note i h.skipped h.then
item_in K.note is w ws i h = absurd h
item_in K.timescale is w ws i h = absurd h
item_in K.scope is w ws i h = absurd h
item_in K.upscope is w ws i h = absurd h
item_in K.var is w ws i h = absurd h
item_in K.enddefinitions is w ws i h = absurd h
item_in K.block is w ws i h = G.block i h.inside h.then
item_in K.vector is w ws i h = skipped-in is w ws (G.vector i) h
item_in K.real is w ws i h = skipped-in is w ws (G.real i) h
item_in K.other is w ws i h = absurd h
item_in (K.time t) is w ws i h = rw h.1 (G.time i h.2)
item_in (K.change l c) is w ws i h = rw h.1 (G.change i h.2)

skipped-in-block : (is : List Item) (w : Placed) (ws : List Placed) → is_end w.bytes ≡ false → Skipped w.bytes → Then Name (InBlock is) ws
    → InBlock is (w ∷ ws)
skipped-in-block is w [] z s h = absurd h
skipped-in-block is w (c ∷ ws) z s h =
    let d = h.1 in record { rest = d.rest; others = d.others; inside = G.skipped z s h.0 d.inside; then = d.then }

change-in-block : (l : ℕ) (c : Word) (is : List Item) (w : Placed) (ws : List Placed) → is_end w.bytes ≡ false → Is (K.change l c) w.bytes
    → InBlock is ws → InBlock (G.value l c ∷ is) (w ∷ ws)
change-in-block l c is w ws z i d = record { rest = d.rest; others = d.others; inside = G.change z i d.inside; then = d.then }

block_in : (k : Kind) (is : List Item) (w : Placed) (ws : List Placed) → is_end w.bytes ≡ false → Seen k w.bytes
    → After (block_step w.bytes k) w.at is ws → InBlock is (w ∷ ws)
block_in K.comment is w ws z i h = absurd h
block_in K.note is w ws z i h = absurd h
block_in K.timescale is w ws z i h = absurd h
block_in K.scope is w ws z i h = absurd h
block_in K.upscope is w ws z i h = absurd h
block_in K.var is w ws z i h = absurd h
block_in K.enddefinitions is w ws z i h = absurd h
block_in K.block is w ws z i h = absurd h
block_in K.vector is w ws z i h = skipped-in-block is w ws z (G.vector i) h
block_in K.real is w ws z i h = skipped-in-block is w ws z (G.real i) h
block_in K.other is w ws z i h = absurd h
block_in (K.time t) is w ws z i h = absurd h
block_in (K.change l c) is w ws z i h = rw h.1 (change-in-block l c h.0 w ws z i h.2)

in-block : (t : Bool) (is : List Item) (w : Placed) (ws : List Placed) → is_end w.bytes ≡ t
    → After (pick t (W.goes W.items) (block_step w.bytes (kind_of w.bytes))) w.at is ws → InBlock is (w ∷ ws)
in-block true is w ws z h = record { rest = ws; others = is; inside = G.ends z; then = h }
in-block false is w ws z h = block_in (kind_of w.bytes) is w ws z (seen w.bytes) h

word_in : (m : BodyMode) (is : List Item) (w : Placed) (ws : List Placed) → After (body_step m w.bytes) w.at is ws → BodyFrom m is (w ∷ ws)
word_in W.ending is w ws h = wanted (is_end w.bytes) W.items _ w.at is ws h
word_in W.items is w ws h = item_in (kind_of w.bytes) is w ws (seen w.bytes) h
word_in W.text is w ws h = text_in (λ m. BodyFrom m is) W.items W.text w ws (is_end w.bytes) refl (λ d. d) h
word_in W.in_block is w ws h = in-block (is_end w.bytes) is w ws refl h
word_in W.item_code is w ws h = wanted (is_name w.bytes) W.items _ w.at is ws h
word_in W.block_code is w ws h = wanted (is_name w.bytes) W.in_block _ w.at is ws h

-- ---- what the walk gives, as items

-- items never break
whole : (cause p : ℕ) (is : List Item) → W.broken cause p ≡ body_of is → ⊥
whole cause p [] e = true≢false (cc)
whole cause p (G.clock t q ∷ is) e = true≢false (cc)
whole cause p (G.value l c ∷ is) e = true≢false (cc)

time-first : (t p : ℕ) (b : Body) (is : List Item) → W.time t p b ≡ body_of is → (others : List Item) × (is ≡ G.clock t p ∷ others) × (b ≡ body_of others)
time-first t p b [] e = absurd (true≢false (cc))
time-first t p b (G.clock s q ∷ is) e = (is, cc, cc)
time-first t p b (G.value l c ∷ is) e = absurd (true≢false (cc))

change-first : (l : ℕ) (c : Word) (b : Body) (is : List Item) → W.change l c b ≡ body_of is
    → (others : List Item) × (is ≡ G.value l c ∷ others) × (b ≡ body_of others)
change-first l c b [] e = absurd (true≢false (cc))
change-first l c b (G.clock s q ∷ is) e = absurd (true≢false (cc))
change-first l c b (G.value k d ∷ is) e = (is, cc, cc)

module _ (n : ℕ) where
  ended : (m : BodyMode) (is : List Item) → at_end n m ≡ body_of is → BodyFrom m is []
  ended W.ending is e = whole _ _ is e
  ended W.items [] e = G.over
  ended W.items (G.clock t q ∷ is) e = absurd (true≢false (cc))
  ended W.items (G.value l c ∷ is) e = absurd (true≢false (cc))
  ended W.text is e = absurd (whole _ _ is e)
  ended W.in_block is e = absurd (whole _ _ is e)
  ended W.item_code is e = whole _ _ is e
  ended W.block_code is e = whole _ _ is e

  -- what the walk gives after a word is what must follow
  follows : (s : BodyStep) (p : ℕ) (ws : List Placed) (is : List Item)
      → ((m : BodyMode) (others : List Item) → walk_body n m ws ≡ body_of others → BodyFrom m others ws)
      → body_then s p (λ k. walk_body n k ws) ≡ body_of is → After s p is ws
  follows (W.goes m) p ws is rest e = rest m is e
  follows (W.times t) p ws is rest e =
      let h = time-first t p (walk_body n W.items ws) is e in (h.0, h.1, rest W.items h.0 h.2)
  follows (W.changes l c m) p ws is rest e =
      let h = change-first l c (walk_body n m ws) is e in (h.0, h.1, rest m h.0 h.2)
  follows (W.breaks cause) p ws is rest e = whole cause p is e

  pub body-derived : (ws : List Placed) (m : BodyMode) (is : List Item) → walk_body n m ws ≡ body_of is → BodyFrom m is ws
  unfolding walk_body
  body-derived [] m is e = ended m is e
  body-derived (w ∷ ws) m is e = word_in m is w ws (follows (body_step m w.bytes) w.at ws is (body-derived ws) e)
