-- Words that are walked to contents without a break have a derivation, with those contents.
-- Assumes nothing.
use mathlib.Core.Path.{◌≡◌, refl}
use mathlib.Core.Logic.{◌⊎◌, inl, inr, ⊎_elim}
use mathlib.Core.Bool.{Bool, true, false, true≢false}
use mathlib.Core.List.{List, [], ◌∷◌}
use Prim.Native.Nat.{ℕ, ◌*◌}
use Rattle.dshot_reply_spec.specs.Answer.{Answer, given, refused, pick}
use Rattle.dump_spec.specs.Causes.{wrong_index}
use Rattle.dump_spec.specs.Words.{Word, Placed, one_of, is_end, is_name, same}
use Rattle.dump_spec.specs.Numbers.{number_of}
use Rattle.dump_spec.specs.Names.{Part, index_word, is_wrong, is_outside, reference}
use Rattle.dump_spec.specs.Kinds as K
use Rattle.dump_spec.specs.Kinds.{Kind, Scale, Unit, scope_types, var_types, units, unit_in, scale_of, kind_of}
use Rattle.dump_spec.specs.Walk as W
use Rattle.dump_spec.specs.Walk.{Variable, Body, Head, HeadMode, HeadStep, needs, declaration_step, scale_step, size_step, variable_in, ended}
use Rattle.dump_spec.specs.Walk.{head_step, walk_body, head_then, walk_head}
use Rattle.dump_spec.specs.Grammar as G
use Rattle.dump_spec.specs.Grammar.{Is, Note, Indices, Declared, Decls, Item, Dump, body_of, head_of}
use Rattle.dump_spec.proofs.WordKinds.{Seen, seen}
use Rattle.dump_spec.proofs.BodyDerived.{Then, End, Name, AfterText, text_in, BodyFrom, body-derived}

-- a word that is read as a unit is no number
no_number : (us : List Unit) (k j : ℕ) (w : Word) → unit_in us k w ≡ K.number j → ⊥
no_number [] k j w e = true≢false (cc)
no_number (u ∷ us) k j w e = go (same w u.name) (no_number us k j w) e
  where
    go : (t : Bool) → (unit_in us k w ≡ K.number j → ⊥) → pick t (K.unit (k * u.femtoseconds)) (unit_in us k w) ≡ K.number j → ⊥
    go true rest e = true≢false (cc)
    go false rest e = rest e

module _ (p : ℕ) (is : List Item) where
  -- ---- what must follow, by what is due

  abbrev Closed : List Declared → List Placed → Type 0
  Closed ds = Then End (λ r. Dump r ds p is)

  abbrev Scaled : ℕ → List Declared → List Placed → Type 0
  Scaled u ds ws = (others : List Declared) × (ds ≡ G.unit u ∷ others) × Closed others ws

  abbrev UnitDue : ℕ → List Declared → List Placed → Type 0
  UnitDue k ds [] = ⊥
  UnitDue k ds (w ∷ ws) = (u : ℕ) × (unit_in units k w.bytes ≡ K.unit u) × Scaled u ds ws

  -- number and unit are glued or apart
  abbrev ScaleDue : List Declared → List Placed → Type 0
  ScaleDue ds [] = ⊥
  ScaleDue ds (w ∷ ws) =
      ((u : ℕ) × (scale_of w.bytes ≡ K.unit u) × Scaled u ds ws) ⊎ ((k : ℕ) × (scale_of w.bytes ≡ K.number k) × UnitDue k ds ws)

  record Indexed (v : Variable) (q : Part) (ds : List Declared) (ws : List Placed) : Type 0 where
    closing : Placed
    rest : List Placed
    others : List Declared
    said : ds ≡ G.variable (ended v closing) ∷ others
    indices : Indices q ws closing rest
    then : Dump rest others p is

  abbrev NameDue : ℕ → Word → List Declared → List Placed → Type 0
  NameDue k c ds [] = ⊥
  NameDue k c ds (w ∷ ws) = Name w.bytes × Indexed (variable_in k c w) (reference w.bytes).part ds ws

  abbrev CodeDue : ℕ → List Declared → List Placed → Type 0
  CodeDue k ds [] = ⊥
  CodeDue k ds (w ∷ ws) = Name w.bytes × NameDue k w.bytes ds ws

  abbrev SizeDue : List Declared → List Placed → Type 0
  SizeDue ds [] = ⊥
  SizeDue ds (w ∷ ws) = (k : ℕ) × (number_of w.bytes ≡ given k) × CodeDue k ds ws

  abbrev HeadFrom : HeadMode → List Declared → List Placed → Type 0
  HeadFrom W.declaration ds = λ ws. Dump ws ds p is
  HeadFrom W.text ds = AfterText (λ ws. Dump ws ds p is)
  HeadFrom W.scale ds = ScaleDue ds
  HeadFrom W.scope_type ds = Then (λ w. one_of scope_types w ≡ true) (Then Name (Closed ds))
  HeadFrom W.scope_name ds = Then Name (Closed ds)
  HeadFrom W.closing ds = Closed ds
  HeadFrom W.var_type ds = Then (λ w. one_of var_types w ≡ true) (SizeDue ds)
  HeadFrom W.var_size ds = SizeDue ds
  HeadFrom (W.scale_unit k) ds = UnitDue k ds
  HeadFrom (W.var_code k) ds = CodeDue k ds
  HeadFrom (W.var_name k c) ds = NameDue k c ds
  HeadFrom (W.var_index v q) ds = Indexed v q ds

  -- what must follow a word at a place
  abbrev After : HeadStep → ℕ → List Declared → List Placed → Type 0
  After (W.goes m) q ds ws = HeadFrom m ds ws
  After (W.scales u m) q ds ws = (others : List Declared) × (ds ≡ G.unit u ∷ others) × HeadFrom m others ws
  After (W.declares v m) q ds ws = (others : List Declared) × (ds ≡ G.variable v ∷ others) × HeadFrom m others ws
  After W.defines q ds ws = (ds ≡ []) × (p ≡ q) × BodyFrom W.ending is ws
  After (W.breaks cause) q ds ws = ⊥

  -- ---- one declaration more

  before : {ws ws' : List Placed} {ds ds' : List Declared} → ((r : List Placed) → Decls ws ds p r → Decls ws' ds' p r) → Dump ws ds p is → Dump ws' ds' p is
  before f d =
      record { closing = d.closing; rest = d.rest; declarations = f (d.closing ∷ d.rest) d.declarations; closed = d.closed; items = d.items }

  note-in : (ds : List Declared) (w : Placed) (ws : List Placed) → Note w.bytes → HeadFrom W.text ds ws → Dump (w ∷ ws) ds p is
  note-in ds w ws k h = before (λ r d. G.note k h.skipped d) h.then

  unit-in : (k : ℕ) (ds : List Declared) (w m : Placed) (ws : List Placed) → Is K.timescale w.bytes → scale_of m.bytes ≡ K.number k → UnitDue k ds ws
      → Dump (w ∷ m ∷ ws) ds p is
  unit-in k ds w m [] i s h = absurd h
  unit-in k ds w m (v ∷ []) i s h = absurd h.2.2
  unit-in k ds w m (v ∷ e ∷ ws) i s h = let c = h.2 in rw c.1 (before (λ r d. G.apart i s h.1 c.2.0 d) c.2.1)

  glued-in : (u : ℕ) (ds : List Declared) (w m : Placed) (ws : List Placed) → Is K.timescale w.bytes → scale_of m.bytes ≡ K.unit u → Scaled u ds ws
      → Dump (w ∷ m ∷ ws) ds p is
  glued-in u ds w m [] i s h = absurd h.2
  glued-in u ds w m (e ∷ ws) i s h = rw h.1 (before (λ r d. G.glued i s h.2.0 d) h.2.1)

  timescale-in : (ds : List Declared) (w : Placed) (ws : List Placed) → Is K.timescale w.bytes → ScaleDue ds ws → Dump (w ∷ ws) ds p is
  timescale-in ds w [] i h = absurd h
  timescale-in ds w (m ∷ ws) i h =
      ⊎_elim (λ g. glued-in g.0 ds w m ws i g.1 g.2) (λ a. unit-in a.0 ds w m ws i a.1 a.2) h

  scope-in : (ds : List Declared) (w : Placed) (ws : List Placed) → Is K.scope w.bytes → HeadFrom W.scope_type ds ws → Dump (w ∷ ws) ds p is
  scope-in ds w [] i h = absurd h
  scope-in ds w (t ∷ []) i h = absurd h.1
  scope-in ds w (t ∷ m ∷ []) i h = absurd h.1.1
  scope-in ds w (t ∷ m ∷ e ∷ ws) i h = before (λ r d. G.scope i h.0 h.1.0 h.1.1.0 d) h.1.1.1

  upscope-in : (ds : List Declared) (w : Placed) (ws : List Placed) → Is K.upscope w.bytes → Closed ds ws → Dump (w ∷ ws) ds p is
  upscope-in ds w [] i h = absurd h
  upscope-in ds w (e ∷ ws) i h = before (λ r d. G.upscope i h.0 d) h.1

  var-in : (ds : List Declared) (w : Placed) (ws : List Placed) → Is K.var w.bytes → HeadFrom W.var_type ds ws → Dump (w ∷ ws) ds p is
  var-in ds w [] i h = absurd h
  var-in ds w (t ∷ []) i h = absurd h.1
  var-in ds w (t ∷ s ∷ []) i h = absurd h.1.2
  var-in ds w (t ∷ s ∷ c ∷ []) i h = absurd h.1.2.1
  var-in ds w (t ∷ s ∷ c ∷ m ∷ ws) i h =
      let z = h.1 in
      let x = z.2.1.1 in rw x.said (before (λ r d. G.var i h.0 z.1 z.2.0 z.2.1.0 x.indices d) x.then)

  over-in : (q : ℕ) (ds : List Declared) (w : Placed) (ws : List Placed) → Is K.enddefinitions w.bytes → ds ≡ [] → q ≡ w.at → BodyFrom W.ending is ws
      → Dump (w ∷ ws) ds q is
  over-in q ds w [] i d e h = absurd h
  over-in q ds w (c ∷ ws) i d e h = rw (d, e) record { closing = c; rest = ws; declarations = G.over i; closed = h.0; items = h.1 }

  declaration-in : (k : Kind) (ds : List Declared) (w : Placed) (ws : List Placed) → Seen k w.bytes → After (declaration_step w.bytes k) w.at ds ws
      → Dump (w ∷ ws) ds p is
  declaration-in K.comment ds w ws i h = note-in ds w ws (G.comment i) h
  declaration-in K.note ds w ws i h = note-in ds w ws (G.other i) h
  declaration-in K.timescale ds w ws i h = timescale-in ds w ws i h
  declaration-in K.scope ds w ws i h = scope-in ds w ws i h
  declaration-in K.upscope ds w ws i h = upscope-in ds w ws i h
  declaration-in K.var ds w ws i h = var-in ds w ws i h
  declaration-in K.enddefinitions ds w ws i h = over-in p ds w ws i h.0 h.1 h.2
  declaration-in K.block ds w ws i h = absurd h
  declaration-in K.vector ds w ws i h = absurd h
  declaration-in K.real ds w ws i h = absurd h
  declaration-in K.other ds w ws i h = absurd h
  declaration-in (K.time t) ds w ws i h = absurd h
  declaration-in (K.change l c) ds w ws i h = absurd h

  -- ---- one word more

  needed : (t : Bool) (m : HeadMode) (cause q : ℕ) (ds : List Declared) (ws : List Placed) → After (needs t m cause) q ds ws → (t ≡ true) × HeadFrom m ds ws
  needed true m cause q ds ws h = (refl, h)
  needed false m cause q ds ws h = absurd h

  scale_in : (s : Scale) (ds : List Declared) (w : Placed) (ws : List Placed) → scale_of w.bytes ≡ s → After (scale_step s) w.at ds ws
      → ScaleDue ds (w ∷ ws)
  scale_in (K.number k) ds w ws e h = inr (k, e, h)
  scale_in (K.unit u) ds w ws e h = inl (u, e, h)
  scale_in K.wrong ds w ws e h = absurd h

  scale-unit-in : (k : ℕ) (s : Scale) (ds : List Declared) (w : Placed) (ws : List Placed) → unit_in units k w.bytes ≡ s → After (scale_step s) w.at ds ws
      → UnitDue k ds (w ∷ ws)
  scale-unit-in k (K.number j) ds w ws e h = absurd (no_number units k j w.bytes e)
  scale-unit-in k (K.unit u) ds w ws e h = (u, e, h)
  scale-unit-in k K.wrong ds w ws e h = absurd h

  size_in : (a : Answer ℕ) (ds : List Declared) (w : Placed) (ws : List Placed) → number_of w.bytes ≡ a → After (size_step a) w.at ds ws
      → SizeDue ds (w ∷ ws)
  size_in (given k) ds w ws e h = (k, e, h)
  size_in (refused c) ds w ws e h = absurd h

  -- the step of a word among indices, by its three tests
  abbrev tested : Bool → Bool → Bool → Variable → Part → Placed → HeadStep
  tested a b c v q w =
      pick a (pick b (W.declares (ended v w) W.declaration) (W.breaks wrong_index))
      (pick c (W.breaks wrong_index) (W.goes (W.var_index v (index_word q w.bytes))))

  index_in : (a b c : Bool) (v : Variable) (q : Part) (ds : List Declared) (w : Placed) (ws : List Placed) → is_end w.bytes ≡ a → is_outside q ≡ b
      → is_wrong (index_word q w.bytes) ≡ c → After (tested a b c v q w) w.at ds ws → Indexed v q ds (w ∷ ws)
  index_in true true c v q ds w ws e o x h = record { closing = w; rest = ws; others = h.0; said = h.1; indices = G.ends e o; then = h.2 }
  index_in true false c v q ds w ws e o x h = absurd h
  index_in false b true v q ds w ws e o x h = absurd h
  index_in false b false v q ds w ws e o x h =
      record { closing = h.closing; rest = h.rest; others = h.others; said = h.said; indices = G.goes e x h.indices; then = h.then }

  word_in : (m : HeadMode) (ds : List Declared) (w : Placed) (ws : List Placed) → After (head_step m w) w.at ds ws → HeadFrom m ds (w ∷ ws)
  word_in W.declaration ds w ws h = declaration-in (kind_of w.bytes) ds w ws (seen w.bytes) h
  word_in W.text ds w ws h = text_in (λ m. HeadFrom m ds) W.declaration W.text w ws (is_end w.bytes) refl (λ d. d) h
  word_in W.scale ds w ws h = scale_in (scale_of w.bytes) ds w ws refl h
  word_in W.scope_type ds w ws h = needed (one_of scope_types w.bytes) W.scope_name _ w.at ds ws h
  word_in W.scope_name ds w ws h = needed (is_name w.bytes) W.closing _ w.at ds ws h
  word_in W.closing ds w ws h = needed (is_end w.bytes) W.declaration _ w.at ds ws h
  word_in W.var_type ds w ws h = needed (one_of var_types w.bytes) W.var_size _ w.at ds ws h
  word_in W.var_size ds w ws h = size_in (number_of w.bytes) ds w ws refl h
  word_in (W.scale_unit k) ds w ws h = scale-unit-in k (unit_in units k w.bytes) ds w ws refl h
  word_in (W.var_code k) ds w ws h = needed (is_name w.bytes) (W.var_name k w.bytes) _ w.at ds ws h
  word_in (W.var_name k c) ds w ws h = needed (is_name w.bytes) (W.var_index (variable_in k c w) (reference w.bytes).part) _ w.at ds ws h
  word_in (W.var_index v q) ds w ws h = index_in (is_end w.bytes) (is_outside q) (is_wrong (index_word q w.bytes)) v q ds w ws refl refl refl h

  -- ---- what the walk gives, as declarations

  -- declarations and items never break
  whole : (cause q : ℕ) (ds : List Declared) → W.broken cause q ≡ head_of ds p (body_of is) → ⊥
  whole cause q [] e = true≢false (cc)
  whole cause q (G.unit u ∷ ds) e = true≢false (cc)
  whole cause q (G.variable v ∷ ds) e = true≢false (cc)

  unit-first : (u : ℕ) (h : Head) (ds : List Declared) → W.timescale u h ≡ head_of ds p (body_of is)
      → (others : List Declared) × (ds ≡ G.unit u ∷ others) × (h ≡ head_of others p (body_of is))
  unit-first u h [] e = absurd (true≢false (cc))
  unit-first u h (G.unit k ∷ ds) e = (ds, cc, cc)
  unit-first u h (G.variable v ∷ ds) e = absurd (true≢false (cc))

  variable-first : (v : Variable) (h : Head) (ds : List Declared) → W.variable v h ≡ head_of ds p (body_of is)
      → (others : List Declared) × (ds ≡ G.variable v ∷ others) × (h ≡ head_of others p (body_of is))
  variable-first v h [] e = absurd (true≢false (cc))
  variable-first v h (G.unit k ∷ ds) e = absurd (true≢false (cc))
  variable-first v h (G.variable x ∷ ds) e = (ds, cc, cc)

  defined-first : (q : ℕ) (b : Body) (ds : List Declared) → W.defined q b ≡ head_of ds p (body_of is) → (ds ≡ []) × (p ≡ q) × (b ≡ body_of is)
  defined-first q b [] e = (refl, cc, cc)
  defined-first q b (G.unit k ∷ ds) e = absurd (true≢false (cc))
  defined-first q b (G.variable v ∷ ds) e = absurd (true≢false (cc))

  module _ (n : ℕ) where
    -- what the walk gives after a word is what must follow
    follows : (s : HeadStep) (q : ℕ) (ws : List Placed) (ds : List Declared)
        → ((m : HeadMode) (others : List Declared) → walk_head n m ws ≡ head_of others p (body_of is) → HeadFrom m others ws)
        → head_then s q (λ k. walk_head n k ws) (walk_body n W.ending ws) ≡ head_of ds p (body_of is) → After s q ds ws
    follows (W.goes m) q ws ds rest e = rest m ds e
    follows (W.scales u m) q ws ds rest e = let h = unit-first u (walk_head n m ws) ds e in (h.0, h.1, rest m h.0 h.2)
    follows (W.declares v m) q ws ds rest e = let h = variable-first v (walk_head n m ws) ds e in (h.0, h.1, rest m h.0 h.2)
    follows W.defines q ws ds rest e =
        let h = defined-first q (walk_body n W.ending ws) ds e in (h.0, h.1, body-derived n ws W.ending is h.2)
    follows (W.breaks cause) q ws ds rest e = whole cause q ds e

    head-derived : (ws : List Placed) (m : HeadMode) (ds : List Declared) → walk_head n m ws ≡ head_of ds p (body_of is) → HeadFrom m ds ws
    unfolding walk_head
    head-derived [] m ds e = absurd (whole _ _ ds e)
    head-derived (w ∷ ws) m ds e = word_in m ds w ws (follows (head_step m w) w.at ws ds (head-derived ws) e)

pub walked-derived : (n : ℕ) (ws : List Placed) (ds : List Declared) (p : ℕ) (is : List Item) → walk_head n W.declaration ws ≡ head_of ds p (body_of is)
    → Dump ws ds p is
walked-derived n ws ds p is e = head-derived p is n ws W.declaration ds e
