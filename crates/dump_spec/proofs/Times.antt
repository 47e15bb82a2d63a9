-- However many digits a time has, none is read from 2^62 on: every change of a signal is before 2^62. Its level is 0, 1 or 2 (none). No change falls.
-- Assumes nothing.
use mathlib.Core.Path.{◌≡◌, subst}
use mathlib.Core.List.{List, [], ◌∷◌}
use Prim.Native.Nat.{ℕ, ◌^◌, ◌<◌}
use lib.Dec.{ltb, lit<}
use Rattle.dump_spec.specs.Words.{Word, same}
use Rattle.dump_spec.specs.Numbers.{time_limit}
use Rattle.dump_spec.specs.Names.{unescaped}
use Rattle.dump_spec.specs.Walk as W
use Rattle.dump_spec.specs.Walk.{Body}
use Rattle.dump_spec.specs.Signal.{Outcome, read, broke, onward, Change, changed, never, changes_from}
use Rattle.dump_spec.specs.Dump.{head_at, changes_of}
use Rattle.dump_spec.proofs.Bounded.{Bounded, head-bounded}
use Rattle.dump_spec.proofs.Declares.{Signal, signal-read, declares-bounded}
use Rattle.dump_spec.proofs.Outcomes.{chosen}
use Rattle.dump_spec.proofs.Sorted.{Sorted, changes-sorted}

-- each change is before a time, and its level is 0, 1 or 2
abbrev pub AllBelow : ℕ → List Change → Type 0
AllBelow n [] = Unit {0}
AllBelow n (c ∷ cs) = ((c.time < n) × (c.level < 3)) × AllBelow n cs

abbrev Below : Outcome (List Change) → Type 0
Below (read cs) = AllBelow time_limit cs
Below (broke cause place) = Unit {0}

below_one : (t l : ℕ) (o : Outcome (List Change)) → t < time_limit → l < 3 → Below o → Below (onward o (λ cs. read (changed t l ∷ cs)))
below_one t l (read cs) h k b = ((h, k), b)
below_one t l (broke cause place) h k b = tt

changes-bounded : (code : Word) (now : ℕ) (b : Body) → now < time_limit → Bounded b → Below (changes_from code now b)
changes-bounded code now W.done h k = tt
changes-bounded code now (W.broken cause place) h k = tt
changes-bounded code now (W.time t place rest) h k =
    chosen Below (ltb t now) _ (changes_from code t rest) (λ e. tt) (λ e. changes-bounded code t rest k.0 k.1)
changes-bounded code now (W.change l c rest) h k =
    chosen Below (same c code) _ (changes_from code now rest)
    (λ e. below_one now l (changes_from code now rest) h k.0 (changes-bounded code now rest h k.1))
    (λ e. changes-bounded code now rest h k.1)

module _ (text : List ℕ) (name : Word) {cs : List Change} (e : changes_of text name ≡ read cs) where
  signal : Signal (unescaped name) never (head_at text W.declaration 0) cs
  unfolding changes_of
  signal = signal-read (unescaped name) never (head_at text W.declaration 0) e

  -- every change of a signal is before 2^62
  pub changes-below : AllBelow (2 ^ 62) cs
  unfolding head_at
  changes-below =
      subst Below signal.changes
      (changes-bounded signal.code 0 signal.body (lit< tt) (declares-bounded signal.declares (head-bounded _ _ _)))

  -- and none is before another that stands in front of it
  pub signal-sorted : Sorted cs
  signal-sorted = changes-sorted signal.code 0 signal.body signal.changes
