-- A word leads where its step says.
-- Assumes nothing.
use mathlib.Core.Path.{◌≡◌, ap}
use mathlib.Core.List.{List, ◌∷◌}
use Prim.Native.Nat.{ℕ}
use Rattle.dump_spec.specs.Words.{Placed}
use Rattle.dump_spec.specs.Walk as W
use Rattle.dump_spec.specs.Walk.{HeadMode, HeadStep, BodyMode, BodyStep, head_step, body_step, body_then, walk_body, head_then, walk_head}

module _ (n : ℕ) where
  pub head_step-moves : (m : HeadMode) (w : Placed) (ws : List Placed) {s : HeadStep} → head_step m w ≡ s
      → walk_head n m (w ∷ ws) ≡ head_then s w.at (λ k. walk_head n k ws) (walk_body n W.ending ws)
  unfolding walk_head
  head_step-moves m w ws e = ap (λ (s : HeadStep). head_then s w.at (λ k. walk_head n k ws) (walk_body n W.ending ws)) e

  pub body-step : (m : BodyMode) (w : Placed) (ws : List Placed) {s : BodyStep} → body_step m w.bytes ≡ s
      → walk_body n m (w ∷ ws) ≡ body_then s w.at (λ k. walk_body n k ws)
  unfolding walk_body
  body-step m w ws e = ap (λ (s : BodyStep). body_then s w.at (λ k. walk_body n k ws)) e
