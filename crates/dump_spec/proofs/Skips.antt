-- Words that are skipped change nothing: the text of a section, a vector or a real with its code, and a change of another code.
-- Assumes nothing.
use Rattle.std.specs.Prelude.{if◌then◌else◌}
use mathlib.Core.Path.{◌≡◌, refl, ap, ◌∙◌}
use mathlib.Core.Logic.{◌⊎◌, inl, inr, ⊎_elim}
use mathlib.Core.Bool.{Bool, true, false}
use mathlib.Core.List.{List, [], ◌∷◌, ◌++◌}
use Prim.Native.Nat.{ℕ}
use native.Mathlib.Omega.{arith}
use lib.Dec.{ltb}
use Rattle.dshot_reply_spec.specs.Answer.{pick}
use Rattle.dump_spec.specs.Causes.{time_before}
use Rattle.dump_spec.specs.Words.{Word, Placed, same, end_word, is_end, is_name}
use Rattle.dump_spec.specs.Kinds as K
use Rattle.dump_spec.specs.Kinds.{kind_of}
use Rattle.dump_spec.specs.Walk as W
use Rattle.dump_spec.specs.Walk.{Body, declaration_step, item_step, block_step, walk_body, walk_head}
use Rattle.dump_spec.specs.Signal.{Outcome, read, broke, Change, changed, onward, changes_from}
use Rattle.dump_spec.proofs.Choices.{on, off, either, same-eq}
use Rattle.dump_spec.proofs.Moves.{head_step-moves, body-step}

-- ---- text

-- no word is `$end`
abbrev pub NoEnd : List Placed → Type 0
NoEnd [] = Unit {0}
NoEnd (w ∷ ws) = (is_end w.bytes ≡ false) × NoEnd ws

module _ (n : ℕ) where
  -- text up to `$end`, among declarations
  pub head-text : (xs : List Placed) (e : Placed) (ws : List Placed) → NoEnd xs → is_end e.bytes ≡ true
      → walk_head n W.text (xs ++ (e ∷ ws)) ≡ walk_head n W.declaration ws
  head-text [] e ws h q = head_step-moves n W.text e ws (ap W.goes (on _ _ q))
  head-text (x ∷ xs) e ws h q = head_step-moves n W.text x (xs ++ (e ∷ ws)) (ap W.goes (off _ _ h.0)) ∙ head-text xs e ws h.1 q

  -- and among times and changes
  pub body-text : (xs : List Placed) (e : Placed) (ws : List Placed) → NoEnd xs → is_end e.bytes ≡ true
      → walk_body n W.text (xs ++ (e ∷ ws)) ≡ walk_body n W.items ws
  body-text [] e ws h q = body-step n W.text e ws (ap W.goes (on _ _ q))
  body-text (x ∷ xs) e ws h q = body-step n W.text x (xs ++ (e ∷ ws)) (ap W.goes (off _ _ h.0)) ∙ body-text xs e ws h.1 q

  -- a comment, a date or a version among declarations
  pub head-section : (w : Placed) (xs : List Placed) (e : Placed) (ws : List Placed) → (kind_of w.bytes ≡ K.comment) ⊎ (kind_of w.bytes ≡ K.note)
      → NoEnd xs → is_end e.bytes ≡ true → walk_head n W.declaration (w ∷ (xs ++ (e ∷ ws))) ≡ walk_head n W.declaration ws
  head-section w xs e ws k h q = head_step-moves n W.declaration w (xs ++ (e ∷ ws)) (opens k) ∙ head-text xs e ws h q
    where
      opens : (kind_of w.bytes ≡ K.comment) ⊎ (kind_of w.bytes ≡ K.note) → declaration_step w.bytes (kind_of w.bytes) ≡ W.goes W.text
      opens (inl c) = ap (declaration_step w.bytes) c
      opens (inr c) = ap (declaration_step w.bytes) c

  -- a comment among times and changes
  pub body-comment : (w : Placed) (xs : List Placed) (e : Placed) (ws : List Placed) → kind_of w.bytes ≡ K.comment → NoEnd xs → is_end e.bytes ≡ true
      → walk_body n W.items (w ∷ (xs ++ (e ∷ ws))) ≡ walk_body n W.items ws
  body-comment w xs e ws k h q = body-step n W.items w (xs ++ (e ∷ ws)) (ap (item_step w.bytes) k) ∙ body-text xs e ws h q

-- ---- vectors and reals

-- the first word of a vector or a real
abbrev pub Wide : Word → Type 0
Wide w = (kind_of w ≡ K.vector) ⊎ (kind_of w ≡ K.real)

end-other : (w : Word) → is_end w ≡ true → kind_of w ≡ K.other
unfolding is_end kind_of
end-other w e = ap kind_of (same-eq w end_word e)

wide-not-end : (w : Word) → Wide w → is_end w ≡ false
wide-not-end w k = ⊎_elim (λ e. absurd (clash (end-other w e) k)) (λ e. e) (either (is_end w))
  where
    clash : kind_of w ≡ K.other → Wide w → ⊥
    clash o (inl v) = let z : ◌≡◌ {A = ℕ} 0 1 = cc in omega arith
    clash o (inr v) = let z : ◌≡◌ {A = ℕ} 0 1 = cc in omega arith

module _ (n : ℕ) (w c : Placed) (ws : List Placed) (k : Wide w.bytes) (h : is_name c.bytes ≡ true) where
  item-wide : Wide w.bytes → item_step w.bytes (kind_of w.bytes) ≡ W.goes W.item_code
  item-wide (inl e) = ap (item_step w.bytes) e
  item-wide (inr e) = ap (item_step w.bytes) e

  block-wide : Wide w.bytes → block_step w.bytes (kind_of w.bytes) ≡ W.goes W.block_code
  block-wide (inl e) = ap (block_step w.bytes) e
  block-wide (inr e) = ap (block_step w.bytes) e

  -- a vector or a real with its code among times and changes
  pub items-wide : walk_body n W.items (w ∷ c ∷ ws) ≡ walk_body n W.items ws
  items-wide = body-step n W.items w (c ∷ ws) (item-wide k) ∙ body-step n W.item_code c ws (on _ _ h)

  -- and in a block
  pub blocks-wide : walk_body n W.in_block (w ∷ c ∷ ws) ≡ walk_body n W.in_block ws
  blocks-wide =
      body-step n W.in_block w (c ∷ ws) (off _ _ (wide-not-end w.bytes k) ∙ block-wide k)
      ∙ body-step n W.block_code c ws (on _ _ h)

-- ---- changes of other codes

-- a body without the changes of other codes
abbrev pub of_code : Word → Body → Body
of_code code W.done = W.done
of_code code (W.broken cause place) = W.broken cause place
of_code code (W.time t place rest) = W.time t place (of_code code rest)
of_code code (W.change l c rest) = if same c code then W.change l c (of_code code rest) else of_code code rest

pub other-code : (code : Word) (now l : ℕ) (c : Word) (rest : Body) → same c code ≡ false → changes_from code now (W.change l c rest) ≡ changes_from code now rest
other-code code now l c rest e = off _ _ e

-- the changes of a code are those of a body without the others
pub own_code : (code : Word) (now : ℕ) (b : Body) → changes_from code now (of_code code b) ≡ changes_from code now b
own_code code now W.done = refl
own_code code now (W.broken cause place) = refl
own_code code now (W.time t place rest) = ap (λ (o : Outcome (List Change)). pick (ltb t now) (broke time_before place) o) (own_code code t rest)
own_code code now (W.change l c rest) = go (same c code) refl (own_code code now rest)
  where
    add : Outcome (List Change) → Outcome (List Change)
    add o = onward o (λ cs. read (changed now l ∷ cs))

    go : (t : Bool) → same c code ≡ t → changes_from code now (of_code code rest) ≡ changes_from code now rest
        → changes_from code now (pick t (W.change l c (of_code code rest)) (of_code code rest))
        ≡ pick t (add (changes_from code now rest)) (changes_from code now rest)
    go true e r = on _ _ e ∙ ap add r
    go false e r = r
