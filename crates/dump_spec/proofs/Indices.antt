-- The name of a variable is the word before its index. An index changes neither name nor code nor size, glued or apart. An escaped name has none.
-- Assumes nothing.
use mathlib.Core.Path.{◌≡◌, refl, ap, ◌∙◌}
use mathlib.Core.Logic.{⊎_elim}
use mathlib.Core.Bool.{false}
use mathlib.Core.List.{List, [], ◌∷◌, ◌++◌}
use Prim.Native.Nat.{ℕ, ◌+◌}
use native.Mathlib.Omega.{arith}
use lib.ListN.{length}
use lib.Seq.{take_at, take-length}
use borrow.Author.Tests.{ne_eqb}
use Rattle.dump_spec.specs.Causes.{text_ends, wrong_index}
use Rattle.dump_spec.specs.Words.{Word, Placed, is_end}
use Rattle.dump_spec.specs.Names.{Part, outside, wrong, index_word, is_wrong, is_outside, Cut, cut_at, cut, reference, name_in, unescaped}
use Rattle.dump_spec.specs.Walk as W
use Rattle.dump_spec.specs.Walk.{Variable, ended, index_step, walk_head}
use Rattle.dump_spec.specs.Grammar as G
use Rattle.dump_spec.specs.Grammar.{Indices}
use Rattle.dump_spec.proofs.Choices.{on, off, either}
use Rattle.dump_spec.proofs.Moves.{head_step-moves}

-- ---- glued to the name

-- no byte is `[`
abbrev pub Plain : Word → Type 0
Plain [] = Unit {0}
Plain (b ∷ w) = (b ≡ 91 → ⊥) × Plain w

stays-wrong : (w : Word) → index_word wrong w ≡ wrong
stays-wrong [] = refl
stays-wrong (b ∷ w) = stays-wrong w

no_index : (b : ℕ) (w : Word) → (b ≡ 91 → ⊥) → index_word outside (b ∷ w) ≡ wrong
no_index b w h = ap (λ (p : Part). index_word p w) (off _ _ (ne_eqb b 91 h)) ∙ stays-wrong w

cut-plain : (n : ℕ) (w i : Word) → Plain w → is_wrong (index_word outside i) ≡ false → cut n (w ++ i) ≡ cut_at 0 (n + length w) (index_word outside i)
cut-plain n [] [] h e = ap (λ (k : ℕ). cut_at 0 k outside) (omega arith)
cut-plain n [] (b ∷ i) h e = off _ _ e ∙ ap (λ (k : ℕ). cut_at 0 k (index_word outside (b ∷ i))) (omega arith)
cut-plain n (b ∷ w) i h e =
    on _ _ (ap is_wrong (no_index b (w ++ i) h.0)) ∙ cut-plain (n + 1) w i h.1 e ∙ ap (λ (k : ℕ). cut_at 0 k (index_word outside i)) (omega arith)

module _ (b : ℕ) (w i : Word) (h : b ≡ 92 → ⊥) (k : Plain w) (e : is_wrong (index_word outside i) ≡ false) where
  -- the name ends where the index begins
  pub glued-cut : reference ((b ∷ w) ++ i) ≡ cut_at 0 (length (b ∷ w)) (index_word outside i)
  glued-cut = off _ _ (off _ _ (ne_eqb b 92 h)) ∙ cut-plain 1 w i k e ∙ ap (λ (n : ℕ). cut_at 0 n (index_word outside i)) (omega arith)

  -- so the index is dropped
  pub glued-dropped : name_in (reference ((b ∷ w) ++ i)) ((b ∷ w) ++ i) ≡ b ∷ w
  glued-dropped = ap (λ (c : Cut). name_in c ((b ∷ w) ++ i)) glued-cut ∙ take_at (b ∷ w) i (length (b ∷ w)) refl

-- ---- an escaped name

-- brackets belong to it
pub escaped-whole : (b : ℕ) (w : Word) → name_in (reference (92 ∷ b ∷ w)) (92 ∷ b ∷ w) ≡ b ∷ w
escaped-whole b w = take-length (b ∷ w)

-- its backslash may be written where it is asked for
pub asked-escaped : (b : ℕ) (w : Word) → unescaped (92 ∷ b ∷ w) ≡ b ∷ w
asked-escaped b w = refl

-- ---- words of their own

-- words are indices up to `$end`; or an index is wrong or open, or the text ends, and the walk breaks
pub data IndexEnd (n : ℕ) (v : Variable) (p : Part) (ws : List Placed) : Type 0 where
  declared : {e : Placed} {r : List Placed} → Indices p ws e r → IndexEnd n v p ws
  broken : {cause place : ℕ} → walk_head n (W.var_index v p) ws ≡ W.broken cause place → IndexEnd n v p ws

module _ (n : ℕ) (v : Variable) where
  -- index words change nothing of the variable but the place after it
  pub indices-declare : {p : Part} {ws r : List Placed} {e : Placed} → Indices p ws e r
      → walk_head n (W.var_index v p) ws ≡ W.variable (ended v e) (walk_head n W.declaration r)
  indices-declare (G.ends {p} {e} {r} h o) = head_step-moves n (W.var_index v p) e r (on _ _ h ∙ on _ _ o)
  indices-declare (G.goes {p} {w} {ws = ws} h k i) = head_step-moves n (W.var_index v p) w ws (off _ _ h ∙ off _ _ k) ∙ indices-declare i

  text-ends : (p : Part) → walk_head n (W.var_index v p) [] ≡ W.broken text_ends n
  unfolding walk_head
  text-ends p = refl

  breaks : (p : Part) (w : Placed) (ws : List Placed) → index_step v p w ≡ W.breaks wrong_index → IndexEnd n v p (w ∷ ws)
  breaks p w ws e = broken (head_step-moves n (W.var_index v p) w ws e)

  one_more : (p : Part) (w : Placed) (ws : List Placed) → is_end w.bytes ≡ false → is_wrong (index_word p w.bytes) ≡ false
      → IndexEnd n v (index_word p w.bytes) ws → IndexEnd n v p (w ∷ ws)
  one_more p w ws h k (declared i) = declared (G.goes h k i)
  one_more p w ws h k (broken e) = broken (head_step-moves n (W.var_index v p) w ws (off _ _ h ∙ off _ _ k) ∙ e)

  -- whatever words follow
  pub index-ends : (p : Part) (ws : List Placed) → IndexEnd n v p ws
  index-ends p [] = broken (text-ends p)
  index-ends p (w ∷ ws) =
      ⊎_elim
      (λ h. ⊎_elim (λ o. declared (G.ends h o)) (λ o. breaks p w ws (on _ _ h ∙ off _ _ o)) (either (is_outside p)))
      (λ h. ⊎_elim (λ k. breaks p w ws (off _ _ h ∙ on _ _ k)) (λ k. one_more p w ws h k (index-ends (index_word p w.bytes) ws))
      (either (is_wrong (index_word p w.bytes))))
      (either (is_end w.bytes))
