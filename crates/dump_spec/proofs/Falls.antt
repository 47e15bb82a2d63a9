-- Why a dump is refused: with 26 just if a time falls, with 25 just if the name is declared never or more than once, and with 24 otherwise.
-- Assumes nothing.
use mathlib.Core.Path.{◌≡◌, refl, sym, ◌∙◌, subst}
use mathlib.Core.Logic.{◌⊎◌, inl, inr, ⊎_elim}
use mathlib.Core.List.{List}
use Prim.Native.Nat.{ℕ}
use native.Mathlib.Omega.{arith}
use Rattle.dshot_reply_spec.specs.Answer.{refused}
use Rattle.dump_spec.specs.Causes.{refusal_of, never_declared, declared_twice, time_before}
use Rattle.dump_spec.specs.Words.{Word}
use Rattle.dump_spec.specs.Names.{unescaped}
use Rattle.dump_spec.specs.Walk as W
use Rattle.dump_spec.specs.Walk.{Body, Head}
use Rattle.dump_spec.specs.Signal.{Outcome, read, broke, Change, Found, never, once, more, changes_from, after_definitions, signal_from}
use Rattle.dump_spec.specs.Dump.{Asked, head_at, changes_of, sampled_levels, read_dump}
use Rattle.dump_spec.proofs.Bounded.{Bounded, BoundedHead, head-bounded}
use Rattle.dump_spec.proofs.Declares.{Declares, Reached, reached, unread, reach, declares-signal, declares-bounded}
use Rattle.dump_spec.proofs.FirstFall.{FirstFall, BodyBreaks, syntax, falls, fall-breaks, body-breaks}
use Rattle.dump_spec.proofs.Refused.{refused-signal, signal-refused}
use Rattle.dump_spec.proofs.Within.{Within}

-- ---- a head of words

-- why the signal of a name breaks after f, with the cause and the place
pub data Why (name : Word) (f : Found) (h : Head) : ℕ → ℕ → Type 0 where
  broken : {cause place : ℕ} → refusal_of cause ≡ 24 → Why name f h cause place
  undeclared : {place : ℕ} {b : Body} → Declares name f h never place b → Why name f h never_declared place
  twice : {place : ℕ} {b : Body} → Declares name f h more place b → Why name f h declared_twice place
  fell : {code : Word} {p t before place : ℕ} {b : Body} → Declares name f h (once code) p b → FirstFall 0 b t before place
      → Why name f h time_before place

module _ (name : Word) (f : Found) (h : Head) where
  abbrev Reason : Outcome (List Change) → Type 0
  Reason (read cs) = Unit {0}
  Reason (broke cause place) = Why name f h cause place

  of-body : {code : Word} {p cause place : ℕ} {b : Body} → Declares name f h (once code) p b → BodyBreaks 0 b cause place → Why name f h cause place
  of-body d (syntax e) = broken e
  of-body d (falls e) = fell d e

  of-changes : {code : Word} {p : ℕ} {b : Body} → Declares name f h (once code) p b → Bounded b → (o : Outcome (List Change))
      → changes_from code 0 b ≡ o → Reason o
  of-changes d k (read cs) e = tt
  of-changes {code} {p} {b} d k (broke cause place) e = of-body d (body-breaks code 0 b k e)

  of-found : (g : Found) {p : ℕ} {b : Body} → Declares name f h g p b → Bounded b → Reason (after_definitions g p b)
  of-found never d k = undeclared d
  of-found (once code) {p} {b} d k = of-changes d k (changes_from code 0 b) refl
  of-found more d k = twice d

  of-head : BoundedHead h → Reached name f h → Reason (signal_from name f h)
  of-head k (reached {g} d) = subst Reason (sym (declares-signal name d)) (of-found g d (declares-bounded d k))
  of-head k (unread cause place e m) = subst Reason (sym e) (broken (m k))

  why : BoundedHead h → {cause place : ℕ} → signal_from name f h ≡ broke cause place → Why name f h cause place
  why k e = subst Reason e (of-head k (reach name f h))

-- ---- a dump

-- a text declares a name as often as g says, up to `$enddefinitions` at a place
pub record Counted (text : List ℕ) (name : Word) (g : Found) (place : ℕ) : Type 0 where
  pub body : Body
  pub declares : Declares (unescaped name) never (head_at text W.declaration 0) g place body

-- A text declares a name once. In what follows, a time is smaller than the one before it; it is the first such time, and stands at a place.
pub record Falls (text : List ℕ) (name : Word) (place : ℕ) : Type 0 where
  pub code : Word
  pub definitions : ℕ
  pub counted : Counted text name (once code) definitions
  pub time : ℕ
  pub before : ℕ
  pub first : FirstFall 0 counted.body time before place

module _ (text : List ℕ) (name : Word) where
  counted-signal : {g : Found} {place : ℕ} (c : Counted text name g place) → changes_of text name ≡ after_definitions g place c.body
  unfolding changes_of
  counted-signal c = declares-signal (unescaped name) c.declares

  falls-signal : {place : ℕ} → Falls text name place → changes_of text name ≡ broke time_before place
  falls-signal f = counted-signal f.counted ∙ fall-breaks f.code f.first

  signal-why : {cause place : ℕ} → changes_of text name ≡ broke cause place → Why (unescaped name) never (head_at text W.declaration 0) cause place
  unfolding changes_of head_at
  signal-why e = why (unescaped name) never (head_at text W.declaration 0) (head-bounded _ _ _) e

  module _ (a : Asked) where
    -- samples break at the first time that falls
    abbrev pub Fell : Type 0
    Fell = (place : ℕ) × (sampled_levels text name a ≡ broke time_before place) × Falls text name place

    -- samples break at `$enddefinitions`, since the name is declared never, or more than once
    abbrev pub Miscounted : Type 0
    Miscounted = (place : ℕ)
        × (((sampled_levels text name a ≡ broke never_declared place) × Counted text name never place)
        ⊎ ((sampled_levels text name a ≡ broke declared_twice place) × Counted text name more place))

    abbrev Because : ℕ → ℕ → Type 0
    Because cause place = Why (unescaped name) never (head_at text W.declaration 0) cause place

    of-26 : {cause place : ℕ} → Because cause place → refusal_of cause ≡ 26 → sampled_levels text name a ≡ broke cause place → Fell
    of-26 (broken e) n s = absurd (omega arith)
    of-26 (undeclared d) n s = absurd (omega arith)
    of-26 (twice d) n s = absurd (omega arith)
    of-26 (fell d q) n s = (_, s, record { code = _; definitions = _; counted = record { body = _; declares = d }; time = _; before = _; first = q })

    of-25 : {cause place : ℕ} → Because cause place → refusal_of cause ≡ 25 → sampled_levels text name a ≡ broke cause place → Miscounted
    of-25 (broken e) n s = absurd (omega arith)
    of-25 (undeclared d) n s = (_, inl (s, record { body = _; declares = d }))
    of-25 (twice d) n s = (_, inr (s, record { body = _; declares = d }))
    of-25 (fell d q) n s = absurd (omega arith)

    of_number : {cause place n : ℕ} → Because cause place → refusal_of cause ≡ n → (n ≡ 24) ⊎ ((n ≡ 25) ⊎ (n ≡ 26))
    of_number (broken e) n = inl (omega arith)
    of_number (undeclared d) n = inr (inl (omega arith))
    of_number (twice d) n = inr (inl (omega arith))
    of_number (fell d q) n = inr (inr (omega arith))

    -- no dump is refused with another number
    pub refusals : (n : ℕ) → read_dump text name a ≡ refused n → (n ≡ 24) ⊎ ((n ≡ 25) ⊎ (n ≡ 26))
    refusals n e = ⊎_elim inl (λ s. of_number (signal-why s.signal) s.number) (refused-signal text name a n e)

    pub refused-falls : read_dump text name a ≡ refused 26 → Fell
    refused-falls e = ⊎_elim (λ n. absurd (omega arith)) (λ s. of-26 (signal-why s.signal) s.number s.samples) (refused-signal text name a 26 e)

    pub refused-miscounted : read_dump text name a ≡ refused 25 → Miscounted
    refused-miscounted e = ⊎_elim (λ n. absurd (omega arith)) (λ s. of-25 (signal-why s.signal) s.number s.samples) (refused-signal text name a 25 e)

    -- the other way round, if the arguments are in range
    module _ (w : Within a) where
      pub falls-refused : {place : ℕ} → Falls text name place → (sampled_levels text name a ≡ broke time_before place) × (read_dump text name a ≡ refused 26)
      falls-refused f = signal-refused text name a w (falls-signal f)

      pub never-refused : {place : ℕ} → Counted text name never place
          → (sampled_levels text name a ≡ broke never_declared place) × (read_dump text name a ≡ refused 25)
      never-refused c = signal-refused text name a w (counted-signal c)

      pub twice-refused : {place : ℕ} → Counted text name more place
          → (sampled_levels text name a ≡ broke declared_twice place) × (read_dump text name a ≡ refused 25)
      twice-refused c = signal-refused text name a w (counted-signal c)
