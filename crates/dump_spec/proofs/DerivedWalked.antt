-- What has a derivation is walked to its contents.
-- Assumes nothing.
use mathlib.Core.Path.{◌≡◌, refl, ap, ◌∙◌}
use mathlib.Core.Bool.{true}
use mathlib.Core.List.{List, [], ◌∷◌}
use Prim.Native.Nat.{ℕ}
use Rattle.dump_spec.specs.Words.{Word, Placed, is_end}
use Rattle.dump_spec.specs.Names.{Part, index_word, reference}
use Rattle.dump_spec.specs.Kinds.{Kind, kind_of}
use Rattle.dump_spec.specs.Walk as W
use Rattle.dump_spec.specs.Walk.{Variable, HeadMode, HeadStep, BodyMode, BodyStep, declaration_step, scale_step, size_step, item_step, block_step}
use Rattle.dump_spec.specs.Walk.{head_step, body_step, body_then, head_then, walk_body, walk_head, variable_in, ended}
use Rattle.dump_spec.specs.Grammar as G
use Rattle.dump_spec.specs.Grammar.{Is, Note, Text, Indices, Declared, Decls, Item, Skipped, Block, Items, Dump, body_of, head_of}
use Rattle.dump_spec.proofs.Choices.{on, off}
use Rattle.dump_spec.proofs.WordKinds.{is-kind}

module _ (n : ℕ) where
  -- ---- times and changes

  body-step : (m : BodyMode) (w : Placed) (ws : List Placed) (s : BodyStep) → body_step m w.bytes ≡ s
      → walk_body n m (w ∷ ws) ≡ body_then s w.at (λ k. walk_body n k ws)
  unfolding walk_body
  body-step m w ws s e = ap (λ (x : BodyStep). body_then x w.at (λ k. walk_body n k ws)) e

  body-text : {ws r : List Placed} → Text ws r → walk_body n W.text ws ≡ walk_body n W.items r
  body-text (G.ends {w = w} {r = r} e) = body-step W.text w r (W.goes W.items) (ap W.goes (on _ _ e))
  body-text (G.goes {w = w} {ws = ws} e t) = body-step W.text w ws (W.goes W.text) (ap W.goes (off _ _ e)) ∙ body-text t

  skipped-item : {w : Word} → Skipped w → item_step w (kind_of w) ≡ W.goes W.item_code
  skipped-item {w} (G.vector k) = ap (item_step w) (is-kind k)
  skipped-item {w} (G.real k) = ap (item_step w) (is-kind k)

  skipped-in-block : {w : Word} → Skipped w → block_step w (kind_of w) ≡ W.goes W.block_code
  skipped-in-block {w} (G.vector k) = ap (block_step w) (is-kind k)
  skipped-in-block {w} (G.real k) = ap (block_step w) (is-kind k)

  block_walked : {ws r : List Placed} {is is' : List Item} → Block ws is r is' → walk_body n W.items r ≡ body_of is' → walk_body n W.in_block ws ≡ body_of is
  block_walked (G.ends {e = e} {r = r} t) h = body-step W.in_block e r (W.goes W.items) (on _ _ t) ∙ h
  block_walked (G.change {w = w} {c = c} {l = l} {ws = ws} z k b) h =
      body-step W.in_block w ws (W.changes l c W.in_block) (off _ _ z ∙ ap (block_step w.bytes) (is-kind k)) ∙ ap (W.change l c) (block_walked b h)
  block_walked (G.skipped {w = w} {c = c} {ws = ws} z s i b) h =
      body-step W.in_block w (c ∷ ws) (W.goes W.block_code) (off _ _ z ∙ skipped-in-block s)
      ∙ body-step W.block_code c ws (W.goes W.in_block) (on _ _ i)
      ∙ block_walked b h

  end-walked : walk_body n W.items [] ≡ W.done
  unfolding walk_body
  end-walked = refl

  items-walked : {ws : List Placed} {is : List Item} → Items ws is → walk_body n W.items ws ≡ body_of is
  items-walked G.over = end-walked
  items-walked (G.time {w = w} {t = t} {ws = ws} k i) =
      body-step W.items w ws (W.times t) (ap (item_step w.bytes) (is-kind k)) ∙ ap (W.time t w.at) (items-walked i)
  items-walked (G.change {w = w} {c = c} {l = l} {ws = ws} k i) =
      body-step W.items w ws (W.changes l c W.items) (ap (item_step w.bytes) (is-kind k)) ∙ ap (W.change l c) (items-walked i)
  items-walked (G.note {w = w} {ws = ws} k t i) =
      body-step W.items w ws (W.goes W.text) (ap (item_step w.bytes) (is-kind k)) ∙ body-text t ∙ items-walked i
  items-walked (G.block {w = w} {ws = ws} k b i) =
      body-step W.items w ws (W.goes W.in_block) (ap (item_step w.bytes) (is-kind k)) ∙ block_walked b (items-walked i)
  items-walked (G.skipped {w = w} {c = c} {ws = ws} s i rest) =
      body-step W.items w (c ∷ ws) (W.goes W.item_code) (skipped-item s) ∙ body-step W.item_code c ws (W.goes W.items) (on _ _ i) ∙ items-walked rest

  -- ---- the declarations

  head_step-moves : (m : HeadMode) (w : Placed) (ws : List Placed) (s : HeadStep) → head_step m w ≡ s
      → walk_head n m (w ∷ ws) ≡ head_then s w.at (λ k. walk_head n k ws) (walk_body n W.ending ws)
  unfolding walk_head
  head_step-moves m w ws s e = ap (λ (x : HeadStep). head_then x w.at (λ k. walk_head n k ws) (walk_body n W.ending ws)) e

  head-text : {ws r : List Placed} → Text ws r → walk_head n W.text ws ≡ walk_head n W.declaration r
  head-text (G.ends {w = w} {r = r} e) = head_step-moves W.text w r (W.goes W.declaration) (ap W.goes (on _ _ e))
  head-text (G.goes {w = w} {ws = ws} e t) = head_step-moves W.text w ws (W.goes W.text) (ap W.goes (off _ _ e)) ∙ head-text t

  note_step : {w : Word} → Note w → declaration_step w (kind_of w) ≡ W.goes W.text
  note_step {w} (G.comment k) = ap (declaration_step w) (is-kind k)
  note_step {w} (G.other k) = ap (declaration_step w) (is-kind k)

  -- the keyword of a declaration
  declaration-step : (s : HeadStep) (w : Placed) (ws : List Placed) {k : Kind} → Is k w.bytes → declaration_step w.bytes k ≡ s
      → walk_head n W.declaration (w ∷ ws) ≡ head_then s w.at (λ m. walk_head n m ws) (walk_body n W.ending ws)
  declaration-step s w ws k e = head_step-moves W.declaration w ws s (ap (declaration_step w.bytes) (is-kind k) ∙ e)

  -- a declaration's `$end`
  closing-step : (w : Placed) (ws : List Placed) → is_end w.bytes ≡ true → walk_head n W.closing (w ∷ ws) ≡ walk_head n W.declaration ws
  closing-step w ws e = head_step-moves W.closing w ws (W.goes W.declaration) (on _ _ e)

  index-walked : (v : Variable) {q : Part} {ws r : List Placed} {e : Placed} → Indices q ws e r
      → walk_head n (W.var_index v q) ws ≡ W.variable (ended v e) (walk_head n W.declaration r)
  index-walked v {q} (G.ends {e = e} {r = r} t o) = head_step-moves (W.var_index v q) e r (W.declares (ended v e) W.declaration) (on _ _ t ∙ on _ _ o)
  index-walked v {q} (G.goes {w = w} {ws = ws} z g i) =
      head_step-moves (W.var_index v q) w ws (W.goes (W.var_index v (index_word q w.bytes))) (off _ _ z ∙ off _ _ g) ∙ index-walked v i

  decls-walked : {ws r : List Placed} {ds : List Declared} {p : ℕ} → Decls ws ds p r → walk_head n W.declaration ws ≡ head_of ds p (walk_body n W.ending r)
  decls-walked (G.over {w = w} {r = r} k) = declaration-step W.defines w r k refl
  decls-walked (G.note {w = w} {ws = ws} k t d) = head_step-moves W.declaration w ws (W.goes W.text) (note_step k) ∙ head-text t ∙ decls-walked d
  decls-walked (G.glued {w = w} {n = m} {e = e} {ws = ws} {u = u} k s z d) =
      declaration-step (W.goes W.scale) w (m ∷ e ∷ ws) k refl
      ∙ head_step-moves W.scale m (e ∷ ws) (W.scales u W.closing) (ap scale_step s)
      ∙ ap (W.timescale u) (closing-step e ws z ∙ decls-walked d)
  decls-walked (G.apart {w = w} {n = m} {m = v} {e = e} {ws = ws} {k = j} {u = u} k s t z d) =
      declaration-step (W.goes W.scale) w (m ∷ v ∷ e ∷ ws) k refl
      ∙ head_step-moves W.scale m (v ∷ e ∷ ws) (W.goes (W.scale_unit j)) (ap scale_step s)
      ∙ head_step-moves (W.scale_unit j) v (e ∷ ws) (W.scales u W.closing) (ap scale_step t)
      ∙ ap (W.timescale u) (closing-step e ws z ∙ decls-walked d)
  decls-walked (G.scope {w = w} {t = t} {n = m} {e = e} {ws = ws} k s i z d) =
      declaration-step (W.goes W.scope_type) w (t ∷ m ∷ e ∷ ws) k refl
      ∙ head_step-moves W.scope_type t (m ∷ e ∷ ws) (W.goes W.scope_name) (on _ _ s)
      ∙ head_step-moves W.scope_name m (e ∷ ws) (W.goes W.closing) (on _ _ i)
      ∙ closing-step e ws z
      ∙ decls-walked d
  decls-walked (G.upscope {w = w} {e = e} {ws = ws} k z d) = declaration-step (W.goes W.closing) w (e ∷ ws) k refl ∙ closing-step e ws z ∙ decls-walked d
  decls-walked (G.var {w = w} {t = t} {s = s} {c = c} {n = m} {e = e} {ws = ws} {k = j} k y z i o x d) =
      let v = variable_in j c.bytes m in
      declaration-step (W.goes W.var_type) w (t ∷ s ∷ c ∷ m ∷ ws) k refl
      ∙ head_step-moves W.var_type t (s ∷ c ∷ m ∷ ws) (W.goes W.var_size) (on _ _ y)
      ∙ head_step-moves W.var_size s (c ∷ m ∷ ws) (W.goes (W.var_code j)) (ap size_step z)
      ∙ head_step-moves (W.var_code j) c (m ∷ ws) (W.goes (W.var_name j c.bytes)) (on _ _ i)
      ∙ head_step-moves (W.var_name j c.bytes) m ws (W.goes (W.var_index v (reference m.bytes).part)) (on _ _ o)
      ∙ index-walked v x
      ∙ ap (W.variable (ended v e)) (decls-walked d)

  pub derived-walked : {ws : List Placed} {ds : List Declared} {p : ℕ} {is : List Item} → Dump ws ds p is
      → walk_head n W.declaration ws ≡ head_of ds p (body_of is)
  derived-walked {ds = ds} {p = p} d =
      decls-walked d.declarations
      ∙ ap (head_of ds p) (body-step W.ending d.closing d.rest (W.goes W.items) (on _ _ d.closed) ∙ items-walked d.items)
