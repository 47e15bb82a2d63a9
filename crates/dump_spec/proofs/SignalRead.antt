-- A signal is read from a walk just if the walk has no break, the name is declared once and no time falls; then its changes are those of the items.
-- Assumes nothing.
use mathlib.Core.Path.{◌≡◌, refl, ap, ◌∙◌}
use mathlib.Core.Bool.{Bool, true, false, true≢false}
use mathlib.Core.List.{List, [], ◌∷◌}
use Prim.Native.Nat.{ℕ}
use lib.Dec.{ltb}
use borrow.Author.Tests.{ltb-false, le-ltb}
use Rattle.dshot_reply_spec.specs.Answer.{pick}
use Rattle.dump_spec.specs.Causes.{time_before}
use Rattle.dump_spec.specs.Words.{Word, same}
use Rattle.dump_spec.specs.Walk as W
use Rattle.dump_spec.specs.Walk.{Body, Head}
use Rattle.dump_spec.specs.Signal.{Outcome, read, broke, onward, Change, changed, Found, never, once, more, declared_by, changes_from}
use Rattle.dump_spec.specs.Signal.{after_definitions, signal_from}
use Rattle.dump_spec.specs.Grammar as G
use Rattle.dump_spec.specs.Grammar.{Declared, Item, body_of, head_of, declared_in, Rising, changes_in}
use Rattle.dump_spec.proofs.Choices.{on, off}

-- ---- from items to the changes that are read

kept : (t : Bool) (x : Change) (cs : List Change) (o : Outcome (List Change)) → o ≡ read cs
    → pick t (onward o (λ ds. read (x ∷ ds))) o ≡ read (pick t (x ∷ cs) cs)
kept true x cs o e = ap (λ (a : Outcome (List Change)). onward a (λ ds. read (x ∷ ds))) e
kept false x cs o e = e

pub changes-read : (code : Word) (now : ℕ) (is : List Item) → Rising now is → changes_from code now (body_of is) ≡ read (changes_in code now is)
changes-read code now [] h = refl
changes-read code now (G.clock t p ∷ is) h = off _ _ (le-ltb t now h.0) ∙ changes-read code t is h.1
changes-read code now (G.value l c ∷ is) h =
    kept (same c code) (changed now l) (changes_in code now is) (changes_from code now (body_of is)) (changes-read code now is h)

pub signal-read : (name : Word) (f : Found) (ds : List Declared) (p : ℕ) (b : Body)
    → signal_from name f (head_of ds p b) ≡ after_definitions (declared_in name f ds) p b
signal-read name f [] p b = refl
signal-read name f (G.unit u ∷ ds) p b = signal-read name f ds p b
signal-read name f (G.variable v ∷ ds) p b = signal-read name (declared_by name f v) ds p b

-- ---- from the changes that are read to items

-- a body without a break, as items from a time on
record BodyRead (code : Word) (now : ℕ) (b : Body) (cs : List Change) : Type 0 where
  items : List Item
  contents : b ≡ body_of items
  rising : Rising now items
  changes : changes_in code now items ≡ cs

body-read-time : (code : Word) (now t p : ℕ) (b : Body) (cs : List Change) (z : Bool) → ltb t now ≡ z
    → pick z (broke time_before p) (changes_from code t b) ≡ read cs → (changes_from code t b ≡ read cs → BodyRead code t b cs)
    → BodyRead code now (W.time t p b) cs
body-read-time code now t p b cs true z e rest = absurd (true≢false (cc))
body-read-time code now t p b cs false z e rest =
    let h = rest e in
    record { items = G.clock t p ∷ h.items; contents = ap (W.time t p) h.contents; rising = (ltb-false t now z, h.rising); changes = h.changes }

onward-read : {A B : Type 0} (a : Outcome A) (next : A → Outcome B) {y : B} → onward a next ≡ read y → (x : A) × (a ≡ read x) × (next x ≡ read y)
onward-read (read x) next e = (x, refl, e)
onward-read (broke cause p) next e = absurd (true≢false (cc))

body-read-change : (code : Word) (now l : ℕ) (c : Word) (b : Body) (cs : List Change) (z : Bool) → same c code ≡ z
    → pick z (onward (changes_from code now b) (λ ds. read (changed now l ∷ ds))) (changes_from code now b) ≡ read cs
    → ((ds : List Change) → changes_from code now b ≡ read ds → BodyRead code now b ds) → BodyRead code now (W.change l c b) cs
body-read-change code now l c b cs true z e rest =
    let q = onward-read (changes_from code now b) (λ ds. read (changed now l ∷ ds)) e in
    let h = rest q.0 q.1 in
    record {
      items = G.value l c ∷ h.items;
      contents = ap (W.change l c) h.contents;
      rising = h.rising;
      changes = on _ _ z ∙ ap (λ (ds : List Change). changed now l ∷ ds) h.changes ∙ cc q.2;
    }
body-read-change code now l c b cs false z e rest =
    let h = rest cs e in
    record { items = G.value l c ∷ h.items; contents = ap (W.change l c) h.contents; rising = h.rising; changes = off _ _ z ∙ h.changes }

body-read : (code : Word) (now : ℕ) (b : Body) (cs : List Change) → changes_from code now b ≡ read cs → BodyRead code now b cs
body-read code now W.done cs e = record { items = []; contents = refl; rising = tt; changes = cc }
body-read code now (W.broken cause p) cs e = absurd (true≢false (cc))
body-read code now (W.time t p b) cs e = body-read-time code now t p b cs (ltb t now) refl e (body-read code t b cs)
body-read code now (W.change l c b) cs e = body-read-change code now l c b cs (same c code) refl e (body-read code now b)

-- a head without a break, as declarations and items
pub record HeadRead (name : Word) (f : Found) (h : Head) (cs : List Change) : Type 0 where
  pub declared : List Declared
  pub place : ℕ
  pub items : List Item
  pub code : Word
  pub contents : h ≡ head_of declared place (body_of items)
  pub single : declared_in name f declared ≡ once code
  pub rising : Rising 0 items
  pub changes : changes_in code 0 items ≡ cs

head-read-defined : (name : Word) (f : Found) (p : ℕ) (b : Body) (cs : List Change) → after_definitions f p b ≡ read cs → HeadRead name f (W.defined p b) cs
head-read-defined name never p b cs e = absurd (true≢false (cc))
head-read-defined name (once c) p b cs e =
    let h = body-read c 0 b cs e in
    record {
      declared = [];
      place = p;
      items = h.items;
      code = c;
      contents = ap (W.defined p) h.contents;
      single = refl;
      rising = h.rising;
      changes = h.changes;
    }
head-read-defined name more p b cs e = absurd (true≢false (cc))

-- a declaration more
head-read-more : (name : Word) (f g : Found) (h k : Head) (cs : List Change) (d : Declared)
    → ((ds : List Declared) (p : ℕ) (b : Body) → h ≡ head_of ds p b → k ≡ head_of (d ∷ ds) p b)
    → ((ds : List Declared) → declared_in name g (d ∷ ds) ≡ declared_in name f ds) → HeadRead name f h cs → HeadRead name g k cs
head-read-more name f g h k cs d contents single t =
    record {
      declared = d ∷ t.declared;
      place = t.place;
      items = t.items;
      code = t.code;
      contents = contents t.declared t.place (body_of t.items) t.contents;
      single = single t.declared ∙ t.single;
      rising = t.rising;
      changes = t.changes;
    }

pub head_read : (name : Word) (f : Found) (h : Head) (cs : List Change) → signal_from name f h ≡ read cs → HeadRead name f h cs
head_read name f (W.broken cause p) cs e = absurd (true≢false (cc))
head_read name f (W.timescale u h) cs e =
    head-read-more name f f h (W.timescale u h) cs (G.unit u) (λ ds p b c. ap (W.timescale u) c) (λ ds. refl) (head_read name f h cs e)
head_read name f (W.variable v h) cs e =
    head-read-more name (declared_by name f v) f h (W.variable v h) cs (G.variable v) (λ ds p b c. ap (W.variable v) c) (λ ds. refl)
    (head_read name (declared_by name f v) h cs e)
head_read name f (W.defined p b) cs e = head-read-defined name f p b cs e
