-- If a dump is refused with another number than 24, the arguments are in range and the reading of the signal breaks, and the other way round.
-- Assumes nothing.
use mathlib.Core.Path.{◌≡◌, refl, sym, ap, ◌∙◌, subst}
use mathlib.Core.Logic.{◌⊎◌, inl, inr, ⊎_elim}
use mathlib.Core.List.{List}
use Prim.Native.Nat.{ℕ}
use lib.Dec.{eqb}
use lib.ListN.{length}
use Rattle.dshot_reply_spec.specs.Answer.{refused}
use Rattle.dshot_reply_spec.proofs.Choice.{not-both}
use Rattle.dump_spec.specs.Causes.{refusal_of, no_place, no_level_at}
use Rattle.dump_spec.specs.Words.{Word}
use Rattle.dump_spec.specs.Levels.{first_without}
use Rattle.dump_spec.specs.Signal.{Outcome, read, broke, onward}
use Rattle.dump_spec.specs.Dump.{Asked, changes_of, sampled_levels, with_levels, dump_levels, answered, read_dump}
use Rattle.dump_spec.proofs.Levels.{sampled, sampled-within}
use Rattle.dump_spec.proofs.Outcomes.{chosen, read-or-broke}
use Rattle.dump_spec.proofs.Within.{Within, within-or-out}

same-cause : {A : Type 0} {o : Outcome A} {c p d q : ℕ} → o ≡ broke c p → o ≡ broke d q → c ≡ d
same-cause e f = cc

-- a refusal of an outcome: the outcome broke with a cause of that number
record Cause {A : Type 0} (o : Outcome A) (n : ℕ) : Type 0 where
  cause : ℕ
  place : ℕ
  broken : o ≡ broke cause place
  number : refusal_of cause ≡ n

answered-refused : {A : Type 0} {n : ℕ} (o : Outcome A) → answered o ≡ refused n → Cause o n
answered-refused (read x) e = absurd (not-both refl e)
answered-refused (broke cause place) e = record { cause = cause; place = place; broken = refl; number = cc }

-- a break in two steps is one of the first step or of the second
onward-broke : {A B : Type 0} (o : Outcome A) (next : A → Outcome B) {cause place : ℕ} → onward o next ≡ broke cause place
    → (o ≡ broke cause place) ⊎ ((x : A) × (o ≡ read x) × (next x ≡ broke cause place))
onward-broke (read x) next e = inr (x, refl, e)
onward-broke (broke c p) next {cause} {place} e =
    let x : c ≡ cause = cc in
    let y : p ≡ place = cc in
    inl (λ i. broke (x i) (y i))

abbrev LevelBreak : Outcome (List ℕ) → Type 0
LevelBreak (read ls) = Unit {0}
LevelBreak (broke cause place) = refusal_of cause ≡ 24

level-24 : (ls : List ℕ) → LevelBreak (with_levels ls)
unfolding with_levels
level-24 ls = chosen LevelBreak (eqb (first_without 0 ls) (length ls)) (read ls) (broke no_level_at no_place) (λ e. tt) (λ e. refl)

-- The arguments are in range, and the reading of the signal breaks at a place for a cause of a number. So do the samples.
pub record SignalBreaks (text : List ℕ) (name : Word) (a : Asked) (n : ℕ) : Type 0 where
  pub cause : ℕ
  pub place : ℕ
  pub number : refusal_of cause ≡ n
  pub within : Within a
  pub signal : changes_of text name ≡ broke cause place
  pub samples : sampled_levels text name a ≡ broke cause place

module _ (text : List ℕ) (name : Word) (a : Asked) where
  abbrev next : Outcome (List ℕ)
  next = onward (changes_of text name) (λ cs. read (sampled a cs))

  abbrev Out : ℕ → Type 0
  Out n = (n ≡ 24) ⊎ SignalBreaks text name a n

  -- samples break for the arguments, or where the signal does
  samples-broke : (n cause place : ℕ) → refusal_of cause ≡ n → sampled_levels text name a ≡ broke cause place → Out n
  unfolding sampled_levels
  samples-broke n cause place h e =
      ⊎_elim
      (λ w. ⊎_elim
      (λ s. inr (record { cause = cause; place = place; number = h; within = w.0; signal = s; samples = e }))
      (λ s. absurd (read-or-broke refl s.2))
      (onward-broke (changes_of text name) (λ cs. read (sampled a cs)) (sym w.1 ∙ e)))
      (λ o. let c : cause ≡ o.cause = same-cause e o.broken in inl (sym h ∙ ap refusal_of c ∙ o.is24))
      (within-or-out a next)

  -- a refusal is 24, or the signal breaks
  pub refused-signal : (n : ℕ) → read_dump text name a ≡ refused n → (n ≡ 24) ⊎ SignalBreaks text name a n
  unfolding read_dump dump_levels
  refused-signal n e =
      let c = answered-refused (dump_levels text name a) e in
      ⊎_elim (λ s. samples-broke n c.cause c.place c.number s)
      (λ s. inl (sym c.number ∙ subst LevelBreak s.2 (level-24 s.0)))
      (onward-broke (sampled_levels text name a) with_levels c.broken)

  -- if the arguments are in range and the signal breaks, samples do, and the dump is refused
  pub signal-refused : Within a → {cause place : ℕ} → changes_of text name ≡ broke cause place
      → (sampled_levels text name a ≡ broke cause place) × (read_dump text name a ≡ refused (refusal_of cause))
  unfolding read_dump dump_levels
  signal-refused w e =
      let s = sampled-within text name a w e in
      (s, ap (λ (o : Outcome (List ℕ)). answered (onward o with_levels)) s)
