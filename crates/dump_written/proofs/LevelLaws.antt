-- Samples of the changes that are written for some levels are those levels.
-- Assumes nothing.
use Rattle.std.specs.Prelude.{if◌then◌else◌}
use mathlib.Core.Path.{◌≡◌, refl, sym, ap, ◌∙◌}
use mathlib.Core.Logic.{⊎_elim}
use mathlib.Core.List.{List, [], ◌∷◌}
use Prim.Native.Nat.{ℕ, zero, suc, ◌+◌, ◌≤◌, ◌<◌}
use native.Mathlib.Omega.{arith}
use lib.Dec.{eqb}
use lib.ListN.{length}
use borrow.Author.Tests.{eq-eqb, ne_eqb, le-leb, lt-leb, lt-ltb}
use Rattle.dshot_reply_spec.proofs.Cases.{equal_or_not}
use Rattle.capture_file.specs.File.{UpTo}
use Rattle.dump_spec.specs.Signal.{Change, changed}
use Rattle.dump_spec.specs.Levels.{level_at, samples_from, first_without}
use Rattle.dump_spec.proofs.Choices.{on, off}

-- the changes for levels from the time t on, after the level l
abbrev pub changes_for : ℕ → ℕ → ℕ → List ℕ → List Change
changes_for period l t [] = []
changes_for period l t (m ∷ ls) = if eqb m l then changes_for period m (t + period) ls else changed t m ∷ changes_for period m (t + period) ls

-- before the first change the level is the one before
not_yet : (period l k t u : ℕ) (ls : List ℕ) → u < t → level_at l (changes_for period k t ls) u ≡ l
not_yet period l k t u [] h = refl
not_yet period l k t u (m ∷ ls) h =
    let cs = changes_for period m (t + period) ls in
    let rest = not_yet period l m (t + period) u ls (omega arith) in
    ⊎_elim
    (λ e. ap (λ (ds : List Change). level_at l ds u) (on cs _ (eq-eqb m k e)) ∙ rest)
    (λ n. ap (λ (ds : List Change). level_at l ds u) (off cs _ (ne_eqb m k n)) ∙ ap (λ (j : ℕ). level_at j cs u) (off m l (lt-leb t u h)) ∙ rest)
    (equal_or_not m k)

-- a change that is past
past : (period l m t u n : ℕ) (cs : List Change) → t ≤ u → samples_from l (changed t m ∷ cs) period u n ≡ samples_from m cs period u n
past period l m t u zero cs h = refl
past period l m t u (suc n) cs h = rw (le-leb t u h, past period l m t (u + period) n cs (omega arith))

pub samples-back : (period l t : ℕ) (ls : List ℕ) → 0 < period → samples_from l (changes_for period l t ls) period t (length ls) ≡ ls
samples-back period l t [] p = refl
samples-back period l t (m ∷ ls) p =
    let cs = changes_for period m (t + period) ls in
    let n = length (m ∷ ls) in
    let samples : ℕ → List Change → List ℕ = λ k ds. samples_from k ds period t n in
    let from-here : samples m cs ≡ m ∷ ls = rw (not_yet period m m (t + period) t ls (omega arith), samples-back period m (t + period) ls p) in
    ⊎_elim
    (λ e. ap (samples l) (on cs _ (eq-eqb m l e)) ∙ ap (λ (k : ℕ). samples k cs) (sym e) ∙ from-here)
    (λ e. ap (samples l) (off cs _ (ne_eqb m l e)) ∙ past period l m t t n cs (omega arith) ∙ from-here)
    (equal_or_not m l)

-- each of them is a level
pub all-levels : (k : ℕ) (ls : List ℕ) → UpTo 1 ls → first_without k ls ≡ k + length ls
all-levels k [] u = omega arith
all-levels k (l ∷ ls) u = on _ _ (lt-ltb l 2 (omega arith)) ∙ all-levels (k + 1) ls u.1 ∙ omega arith
