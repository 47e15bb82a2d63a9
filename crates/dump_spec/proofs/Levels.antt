-- Each sample is the level of the signal at its time, and each sample of a dump that is read has a level.
-- Assumes nothing.
use mathlib.Core.Path.{◌≡◌, refl, sym, ap, ◌∙◌, subst}
use mathlib.Core.Logic.{⊎_elim}
use mathlib.Core.Bool.{Bool, true, false}
use mathlib.Core.List.{List, [], ◌∷◌, ◌++◌}
use Prim.Native.Nat.{ℕ, zero, suc, ◌+◌, ◌*◌, ◌≤◌, ◌<◌}
use native.Mathlib.Omega.{arith}
use lib.Dec.{eqb, leb, ltb}
use lib.ListN.{length, get_or}
use borrow.Author.Tests.{eqb-true, eq-eqb, ltb-true, lt-ltb, le-leb, lt-leb}
use Rattle.dshot_reply_spec.specs.Answer.{given, pick}
use Rattle.dshot_reply_spec.proofs.Choice.{not-both}
use Rattle.dump_spec.specs.Causes.{no_place, no_level_at}
use Rattle.dump_spec.specs.Words.{Word}
use Rattle.dump_spec.specs.Kinds.{no_level}
use Rattle.dump_spec.specs.Signal.{Outcome, read, broke, onward, Change}
use Rattle.dump_spec.specs.Levels.{level_at, samples_from, first_without}
use Rattle.dump_spec.specs.Dump.{Asked, changes_of, sampled_levels, with_levels, dump_levels, answered, read_dump}
use Rattle.dump_spec.proofs.Choices.{on, off}
use Rattle.dump_spec.proofs.Outcomes.{read-or-broke, onward-read}
use Rattle.dump_spec.proofs.Sorted.{AllFrom}
use Rattle.dump_spec.proofs.Within.{Within, within-next, within-or-out}

-- ---- the level

-- before the first change the level is what it was
pub level_before : (l : ℕ) (cs : List Change) (t : ℕ) → AllFrom (suc t) cs → level_at l cs t ≡ l
level_before l [] t h = refl
level_before l (c ∷ cs) t h = ap (λ (k : ℕ). level_at k cs t) (off _ _ (lt-leb c.time t h.0)) ∙ level_before l cs t h.1

-- the last change at or before a time decides
pub level-last : (l : ℕ) (before : List Change) (c : Change) (after : List Change) (t : ℕ) → c.time ≤ t → AllFrom (suc t) after
    → level_at l (before ++ (c ∷ after)) t ≡ c.level
level-last l [] c after t h a = ap (λ (k : ℕ). level_at k after t) (on _ _ (le-leb c.time t h)) ∙ level_before c.level after t a
level-last l (b ∷ before) c after t h a = level-last (pick (leb b.time t) b.level l) before c after t h a

-- ---- samples

module _ (l : ℕ) (cs : List Change) (period : ℕ) where
  pub sample-count : (t n : ℕ) → length (samples_from l cs period t n) ≡ n
  sample-count t zero = refl
  sample-count t (suc n) = ap suc (sample-count (t + period) n)

  -- sample k is the level at its time
  pub sample-level : (t n k : ℕ) → k < n → get_or (samples_from l cs period t n) k 0 ≡ level_at l cs (t + k * period)
  sample-level t zero k h = absurd (omega arith)
  sample-level t (suc n) zero h = ap (level_at l cs) (omega arith)
  sample-level t (suc n) (suc k) h = sample-level (t + period) n k (omega arith) ∙ ap (level_at l cs) (omega arith)

-- ---- levels of all samples

-- if there are as many samples before the first without a level as there are samples, each has one
all_known : (k : ℕ) (ls : List ℕ) → first_without k ls ≡ k + length ls → (i : ℕ) → i < length ls → get_or ls i 0 < 2
all_known k [] e = λ i h. absurd (omega arith)
all_known k (l ∷ ls) e = go (ltb l 2) refl (all_known (k + 1) ls) e
  where
    go : (b : Bool) → ltb l 2 ≡ b → (first_without (k + 1) ls ≡ k + 1 + length ls → (i : ℕ) → i < length ls → get_or ls i 0 < 2)
        → pick b (first_without (k + 1) ls) k ≡ k + suc (length ls) → (i : ℕ) → i < suc (length ls) → get_or (l ∷ ls) i 0 < 2
    go true b rest e zero h = ltb-true l 2 b
    go true b rest e (suc i) h = rest (omega arith) i (omega arith)
    go false b rest e i h = absurd (omega arith)

-- and the other way round
known-all : (k : ℕ) (ls : List ℕ) → ((i : ℕ) → i < length ls → get_or ls i 0 < 2) → first_without k ls ≡ k + length ls
known-all k [] h = omega arith
known-all k (l ∷ ls) h = on _ _ (lt-ltb l 2 (h 0 (omega arith))) ∙ known-all (k + 1) ls (λ i j. h (suc i) (omega arith)) ∙ omega arith

answered-given : {A : Type 0} {x : A} (o : Outcome A) → answered o ≡ given x → o ≡ read x
answered-given (read y) e = cc
answered-given (broke cause place) e = absurd (not-both e refl)

with-levels : (o : List ℕ) {ls : List ℕ} → with_levels o ≡ read ls → (first_without 0 o ≡ length o) × (o ≡ ls)
unfolding with_levels
with-levels o {ls} e = go (eqb (first_without 0 o) (length o)) refl e
  where
    go : (b : Bool) → eqb (first_without 0 o) (length o) ≡ b → pick b (read o) (broke no_level_at no_place) ≡ read ls
        → (first_without 0 o ≡ length o) × (o ≡ ls)
    go true b e = (eqb-true (first_without 0 o) (length o) b, cc)
    go false b e = absurd (read-or-broke e refl)

-- ---- samples of a dump

-- What samples say that are read: the arguments are in range, the text has changes of the name, and each sample is the level at its time, 0 or 1.
pub record Sampled (text : List ℕ) (name : Word) (a : Asked) (ls : List ℕ) : Type 0 where
  pub within : Within a
  pub changes : List Change
  pub signal : changes_of text name ≡ read changes
  pub many : length ls ≡ a.count
  pub level : (k : ℕ) → k < a.count → get_or ls k 0 ≡ level_at no_level changes (a.offset + k * a.period)
  pub known : (k : ℕ) → k < a.count → level_at no_level changes (a.offset + k * a.period) < 2

abbrev pub sampled : Asked → List Change → List ℕ
sampled a cs = samples_from no_level cs a.period a.offset a.count

module _ (text : List ℕ) (name : Word) (a : Asked) where
  sampled-read : (o : List ℕ) → sampled_levels text name a ≡ read o → Within a × ((cs : List Change) × (changes_of text name ≡ read cs) × (sampled a cs ≡ o))
  unfolding sampled_levels
  sampled-read o e =
      ⊎_elim
      (λ h. let s = onward-read (changes_of text name) (λ cs. read (sampled a cs)) (sym h.1 ∙ e) in (h.0, (s.0, s.1, cc)))
      (λ h. absurd (read-or-broke e h.broken))
      (within-or-out a (onward (changes_of text name) (λ cs. read (sampled a cs))))

  read-sampled : (ls o : List ℕ) → sampled_levels text name a ≡ read o → with_levels o ≡ read ls → Sampled text name a ls
  read-sampled ls o e f =
      let s = sampled-read o e in
      let w = with-levels o f in
      let l = sample-level no_level s.1.0 a.period a.offset a.count in
      let n = sample-count no_level s.1.0 a.period a.offset a.count in
      let q : sampled a s.1.0 ≡ ls = s.1.2 ∙ w.1 in
      let m : length o ≡ a.count = ap length (sym s.1.2) ∙ n in
      record {
        within = s.0;
        changes = s.1.0;
        signal = s.1.1;
        many = ap length (sym q) ∙ n;
        level = λ k h. ap (λ (x : List ℕ). get_or x k 0) (sym q) ∙ l k h;
        known = λ k h. subst (λ (x : ℕ). x < 2) (ap (λ (x : List ℕ). get_or x k 0) (sym s.1.2) ∙ l k h) (all_known 0 o (omega arith) k (omega arith));
      }

  -- what is read is so
  pub read-levels : {ls : List ℕ} → read_dump text name a ≡ given ls → Sampled text name a ls
  unfolding read_dump dump_levels
  read-levels {ls} e =
      let s = onward-read (sampled_levels text name a) with_levels (answered-given (dump_levels text name a) e) in
      read-sampled ls s.0 s.1 s.2

  -- if the arguments are in range, the signal decides
  pub sampled-within : Within a → {o : Outcome (List Change)} → changes_of text name ≡ o
      → sampled_levels text name a ≡ onward o (λ cs. read (sampled a cs))
  unfolding sampled_levels
  sampled-within h e = within-next a _ h ∙ ap (λ (o : Outcome (List Change)). onward o (λ cs. read (sampled a cs))) e

  -- and what is so is read
  pub levels-read : Within a → (cs : List Change) → changes_of text name ≡ read cs
      → ((k : ℕ) → k < a.count → level_at no_level cs (a.offset + k * a.period) < 2) → read_dump text name a ≡ given (sampled a cs)
  unfolding read_dump dump_levels with_levels
  levels-read h cs e known =
      ap (λ (o : Outcome (List ℕ)). answered (onward o with_levels)) (sampled-within h e)
      ∙ ap answered (on _ _ (eq-eqb _ _ (known-all 0 (sampled a cs) all ∙ omega arith)))
    where
      all : (k : ℕ) → k < length (sampled a cs) → get_or (sampled a cs) k 0 < 2
      all k l =
          let b : k < a.count = omega (arith, sample-count no_level cs a.period a.offset a.count) in
          rw (sample-level no_level cs a.period a.offset a.count k b) (known k b)
