-- What a head declares of a name decides what a signal is: its changes, or why it breaks.
-- Assumes nothing.
use mathlib.Core.Path.{◌≡◌, refl, sym, ◌∙◌}
use mathlib.Core.List.{List}
use Prim.Native.Nat.{ℕ}
use Rattle.dump_spec.specs.Causes.{refusal_of}
use Rattle.dump_spec.specs.Words.{Word}
use Rattle.dump_spec.specs.Walk as W
use Rattle.dump_spec.specs.Walk.{Body, Head, Variable}
use Rattle.dump_spec.specs.Signal.{read, broke, Change, Found, never, once, more, declared_by, changes_from, after_definitions, signal_from}
use Rattle.dump_spec.proofs.Bounded.{Bounded, BoundedHead}
use Rattle.dump_spec.proofs.Outcomes.{read-or-broke}

-- After f, a head declares a name as often as g says, up to `$enddefinitions` at a place. Then comes a body.
pub data Declares (name : Word) : Found → Head → Found → ℕ → Body → Type 0 where
  over : {g : Found} {p : ℕ} {b : Body} → Declares name g (W.defined p b) g p b
  unit : {f g : Found} {p u : ℕ} {b : Body} {h : Head} → Declares name f h g p b → Declares name f (W.timescale u h) g p b
  variable : {f g : Found} {p : ℕ} {b : Body} {v : Variable} {h : Head} → Declares name (declared_by name f v) h g p b
      → Declares name f (W.variable v h) g p b

pub declares-signal : (name : Word) {f g : Found} {h : Head} {p : ℕ} {b : Body} → Declares name f h g p b → signal_from name f h ≡ after_definitions g p b
declares-signal name over = refl
declares-signal name (unit d) = declares-signal name d
declares-signal name (variable d) = declares-signal name d

pub declares-bounded : {name : Word} {f g : Found} {h : Head} {p : ℕ} {b : Body} → Declares name f h g p b → BoundedHead h → Bounded b
declares-bounded over k = k
declares-bounded (unit d) k = declares-bounded d k
declares-bounded (variable d) k = declares-bounded d k

-- a head is read to its end; or it breaks, with the refusal 24 if it is a head of words
pub data Reached (name : Word) (f : Found) (h : Head) : Type 0 where
  reached : {g : Found} {p : ℕ} {b : Body} → Declares name f h g p b → Reached name f h
  unread : (cause place : ℕ) → signal_from name f h ≡ broke cause place → (BoundedHead h → refusal_of cause ≡ 24) → Reached name f h

after-unit : {name : Word} {f : Found} {h : Head} {u : ℕ} → Reached name f h → Reached name f (W.timescale u h)
after-unit (reached d) = reached (unit d)
after-unit (unread cause place e k) = unread cause place e k

after-variable : {name : Word} {f : Found} {h : Head} {v : Variable} → Reached name (declared_by name f v) h → Reached name f (W.variable v h)
after-variable (reached d) = reached (variable d)
after-variable (unread cause place e k) = unread cause place e k

pub reach : (name : Word) (f : Found) (h : Head) → Reached name f h
reach name f (W.broken cause place) = unread cause place refl (λ k. k)
reach name f (W.timescale u rest) = after-unit (reach name f rest)
reach name f (W.variable v rest) = after-variable (reach name (declared_by name f v) rest)
reach name f (W.defined place body) = reached over

-- a signal that is read: its code, and the body that has its changes
pub record Signal (name : Word) (f : Found) (h : Head) (cs : List Change) : Type 0 where
  pub code : Word
  pub place : ℕ
  pub body : Body
  pub declares : Declares name f h (once code) place body
  pub changes : changes_from code 0 body ≡ read cs

-- the changes of a signal are those of its code, and the name is declared once
pub signal-read : (name : Word) (f : Found) (h : Head) {cs : List Change} → signal_from name f h ≡ read cs → Signal name f h cs
signal-read name f h {cs} e = ends (reach name f h)
  where
    found : (g : Found) (p : ℕ) (b : Body) → Declares name f h g p b → after_definitions g p b ≡ read cs → Signal name f h cs
    found never p b d q = absurd (read-or-broke q refl)
    found (once code) p b d q = record { code = code; place = p; body = b; declares = d; changes = q }
    found more p b d q = absurd (read-or-broke q refl)

    ends : Reached name f h → Signal name f h cs
    ends (reached {g} {p} {b} d) = found g p b d (sym (declares-signal name d) ∙ e)
    ends (unread cause place q k) = absurd (read-or-broke e q)
