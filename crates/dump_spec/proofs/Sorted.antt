-- The changes of a signal never fall: they are in the order of their times, and none is before the time from which they are read.
-- Assumes nothing.
use mathlib.Core.Path.{◌≡◌, subst}
use mathlib.Core.List.{List, [], ◌∷◌}
use Prim.Native.Nat.{ℕ, ◌≤◌}
use native.Mathlib.Nat.{le_refl, le_trans}
use lib.Dec.{ltb}
use borrow.Author.Tests.{ltb-false}
use Rattle.dump_spec.specs.Causes.{time_before}
use Rattle.dump_spec.specs.Words.{Word, same}
use Rattle.dump_spec.specs.Walk as W
use Rattle.dump_spec.specs.Walk.{Body}
use Rattle.dump_spec.specs.Signal.{Outcome, read, broke, onward, Change, changed, changes_from}
use Rattle.dump_spec.proofs.Outcomes.{chosen}

-- no change is before a time
abbrev pub AllFrom : ℕ → List Change → Type 0
AllFrom t [] = Unit {0}
AllFrom t (c ∷ cs) = (t ≤ c.time) × AllFrom t cs

-- no change is before one that stands in front of it
abbrev pub Sorted : List Change → Type 0
Sorted [] = Unit {0}
Sorted (c ∷ cs) = AllFrom c.time cs × Sorted cs

pub all-from-earlier : (s t : ℕ) → s ≤ t → (cs : List Change) → AllFrom t cs → AllFrom s cs
all-from-earlier s t h [] a = tt
all-from-earlier s t h (c ∷ cs) a = (le_trans h a.0, all-from-earlier s t h cs a.1)

-- what is read is sorted, from a time on
abbrev After : ℕ → Outcome (List Change) → Type 0
After t (read cs) = AllFrom t cs × Sorted cs
After t (broke cause place) = Unit {0}

after-earlier : (s t : ℕ) → s ≤ t → (o : Outcome (List Change)) → After t o → After s o
after-earlier s t h (read cs) a = (all-from-earlier s t h cs a.0, a.1)
after-earlier s t h (broke cause place) a = tt

after_one : (t l : ℕ) (o : Outcome (List Change)) → After t o → After t (onward o (λ cs. read (changed t l ∷ cs)))
after_one t l (read cs) a = ((le_refl t, a.0), a)
after_one t l (broke cause place) a = tt

after : (code : Word) (now : ℕ) (b : Body) → After now (changes_from code now b)
after code now W.done = (tt, tt)
after code now (W.broken cause place) = tt
after code now (W.time t place rest) =
    chosen (After now) (ltb t now) (broke time_before place) (changes_from code t rest) (λ e. tt)
    (λ e. after-earlier now t (ltb-false t now e) (changes_from code t rest) (after code t rest))
after code now (W.change l c rest) =
    chosen (After now) (same c code) _ (changes_from code now rest) (λ e. after_one now l (changes_from code now rest) (after code now rest))
    (λ e. after code now rest)

module _ (code : Word) (now : ℕ) (b : Body) {cs : List Change} (e : changes_from code now b ≡ read cs) where
  -- no change that is read from a time on is before that time
  pub changes-after : AllFrom now cs
  changes-after = (subst (After now) e (after code now b)).0

  -- and none falls
  pub changes-sorted : Sorted cs
  changes-sorted = (subst (After now) e (after code now b)).1
