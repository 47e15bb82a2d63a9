-- The walk accepts just what has a derivation, with its contents; a signal is read just if the dump declares it once and no time falls.
-- Assumes nothing.
use mathlib.Core.Path.{◌≡◌, ap, ◌∙◌}
use mathlib.Core.Logic.{◌↔◌}
use mathlib.Core.List.{List}
use Prim.Native.Nat.{ℕ}
use Rattle.dump_spec.specs.Words.{Word, Placed}
use Rattle.dump_spec.specs.Walk.{declaration, walk_head}
use Rattle.dump_spec.specs.Signal.{read, Change, Found, never, after_definitions, signal_from}
use Rattle.dump_spec.specs.Grammar.{Declared, Item, Dump, Reads, body_of, head_of}
use Rattle.dump_spec.proofs.DerivedWalked.{derived-walked}
use Rattle.dump_spec.proofs.HeadDerived.{walked-derived}
use Rattle.dump_spec.proofs.SignalRead.{changes-read, signal-read, head_read}

pub walk-is-grammar : (n : ℕ) (ws : List Placed) (ds : List Declared) (p : ℕ) (is : List Item)
    → (walk_head n declaration ws ≡ head_of ds p (body_of is)) ↔ Dump ws ds p is
walk-is-grammar n ws ds p is = (walked-derived n ws ds p is, derived-walked n)

reads : (name : Word) (n : ℕ) (ws : List Placed) (cs : List Change) → signal_from name never (walk_head n declaration ws) ≡ read cs → Reads name ws cs
reads name n ws cs e =
    let t = head_read name never (walk_head n declaration ws) cs e in
    record {
      declared = t.declared;
      place = t.place;
      items = t.items;
      code = t.code;
      dump = walked-derived n ws t.declared t.place t.items t.contents;
      single = t.single;
      rising = t.rising;
      changes = t.changes;
    }

is_read : (name : Word) (n : ℕ) (ws : List Placed) (cs : List Change) → Reads name ws cs → signal_from name never (walk_head n declaration ws) ≡ read cs
is_read name n ws cs r =
    ap (signal_from name never) (derived-walked n r.dump)
    ∙ signal-read name never r.declared r.place (body_of r.items)
    ∙ ap (λ (f : Found). after_definitions f r.place (body_of r.items)) r.single
    ∙ changes-read r.code 0 r.items r.rising
    ∙ ap read r.changes

pub read-is-grammar : (name : Word) (n : ℕ) (ws : List Placed) (cs : List Change)
    → (signal_from name never (walk_head n declaration ws) ≡ read cs) ↔ Reads name ws cs
read-is-grammar name n ws cs = (reads name n ws cs, is_read name n ws cs)
