-- The declared name decides alone which variable is read: other variables, scopes, timescales and places change nothing. Indices.antt says it of indices.
-- Assumes nothing.
use Rattle.std.specs.Prelude.{if◌then◌else◌}
use mathlib.Core.Path.{◌≡◌, refl, sym, ap, ◌∙◌}
use mathlib.Core.Bool.{Bool, true, false}
use mathlib.Core.List.{List, ◌∷◌}
use Prim.Native.Nat.{ℕ}
use Rattle.dshot_reply_spec.specs.Answer.{pick}
use Rattle.dump_spec.specs.Words.{Word, Placed, one_of, is_end, is_name}
use Rattle.dump_spec.specs.Kinds as K
use Rattle.dump_spec.specs.Kinds.{scope_types, kind_of}
use Rattle.dump_spec.specs.Walk as W
use Rattle.dump_spec.specs.Walk.{Head, Variable, declaration_step, walk_head}
use Rattle.dump_spec.specs.Signal.{Found, one_more, counts, signal_from}
use Rattle.dump_spec.proofs.Choices.{on, same_refl}
use Rattle.dump_spec.proofs.Moves.{head_step-moves}

-- ---- other variables

-- a variable of one bit and a name, of which only the code is kept
abbrev pub bare : Word → Word → Variable
bare name code = record { size = 1; code = code; name = name; at = 0; next = 0 }

-- a head of which only the codes of the variables that count are kept, besides where it ends and what follows
abbrev pub only : Word → Head → Head
only name (W.broken cause place) = W.broken cause place
only name (W.timescale u rest) = only name rest
only name (W.variable v rest) = if counts name v then W.variable (bare name v.code) (only name rest) else only name rest
only name (W.defined place body) = W.defined place body

-- a signal is that of such a head
pub name-alone : (name : Word) (f : Found) (h : Head) → signal_from name f h ≡ signal_from name f (only name h)
name-alone name f (W.broken cause place) = refl
name-alone name f (W.timescale u rest) = name-alone name f rest
name-alone name f (W.variable v rest) = go (counts name v) (λ g. name-alone name g rest)
  where
    go : (t : Bool) → ((g : Found) → signal_from name g rest ≡ signal_from name g (only name rest))
        → signal_from name (pick t (one_more f v.code) f) rest
        ≡ signal_from name f (pick t (W.variable (bare name v.code) (only name rest)) (only name rest))
    go true r =
        r (one_more f v.code) ∙ ap (λ (g : Found). signal_from name g (only name rest)) (sym (on (one_more f v.code) f (same_refl name)))
    go false r = r f
name-alone name f (W.defined place body) = refl

-- ---- scopes

module _ (n : ℕ) where
  -- the start of a scope
  pub scope-skipped : (w t m e : Placed) (ws : List Placed) → kind_of w.bytes ≡ K.scope → one_of scope_types t.bytes ≡ true → is_name m.bytes ≡ true
      → is_end e.bytes ≡ true → walk_head n W.declaration (w ∷ t ∷ m ∷ e ∷ ws) ≡ walk_head n W.declaration ws
  scope-skipped w t m e ws k h i q =
      head_step-moves n W.declaration w (t ∷ m ∷ e ∷ ws) (ap (declaration_step w.bytes) k)
      ∙ head_step-moves n W.scope_type t (m ∷ e ∷ ws) (on _ _ h)
      ∙ head_step-moves n W.scope_name m (e ∷ ws) (on _ _ i)
      ∙ head_step-moves n W.closing e ws (on _ _ q)

  -- and its end
  pub upscope-skipped : (w e : Placed) (ws : List Placed) → kind_of w.bytes ≡ K.upscope → is_end e.bytes ≡ true
      → walk_head n W.declaration (w ∷ e ∷ ws) ≡ walk_head n W.declaration ws
  upscope-skipped w e ws k q =
      head_step-moves n W.declaration w (e ∷ ws) (ap (declaration_step w.bytes) k) ∙ head_step-moves n W.closing e ws (on _ _ q)
