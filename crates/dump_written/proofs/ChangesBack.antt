-- The lines of changes read back as the changes that they were written for.
-- Assumes nothing.
use mathlib.Core.Path.{◌≡◌, refl, ap, ◌∙◌}
use mathlib.Core.Logic.{⊎_elim}
use mathlib.Core.List.{List, [], ◌∷◌, ◌++◌}
use Prim.Native.Nat.{ℕ, ◌+◌, ◌*◌, ◌^◌, ◌≤◌, ◌<◌}
use native.Mathlib.Omega.{arith}
use lib.ListN.{length}
use borrow.Author.Tests.{eq-eqb, ne_eqb, le-ltb}
use Rattle.dshot_reply_spec.proofs.Cases.{equal_or_not}
use Rattle.capture_file.specs.File.{UpTo}
use Rattle.capture_file.specs.Line.{digit, decimal_within}
use Rattle.dump_spec.specs.Words.{Word, words_from}
use Rattle.dump_spec.specs.Walk as W
use Rattle.dump_spec.specs.Walk.{walk_body}
use Rattle.dump_spec.specs.Signal.{read, onward, Change, changed, changes_from}
use Rattle.dump_spec.proofs.Choices.{off}
use Rattle.dump_written.specs.Written.{change_line, change_lines}
use Rattle.dump_written.proofs.WordLaws.{line-words, after}
use Rattle.dump_written.proofs.KindLaws.{time-code, time-kind, change-code, change-kind}
use Rattle.dump_written.proofs.LevelLaws.{changes_for}

-- the code of the signal: !
abbrev pub signal_code : Word
signal_code = 33 ∷ []

-- ---- one line

module _ (n q t l : ℕ) (small : t < 10 ^ 14) (level : l ≤ 1) where
  abbrev words : List Word
  words = (35 ∷ decimal_within 14 t) ∷ (digit l ∷ signal_code) ∷ []

  line_walk : (s : List ℕ)
      → walk_body n W.items (words_from q (change_line t l ++ s)) ≡ W.time t q (W.change l signal_code (walk_body n W.items (words_from (after q words) s)))
  unfolding change_line walk_body
  line_walk s =
      ap (walk_body n W.items) (line-words q words s (time-code t small, (change-code l level, tt)))
      ∙ rw (time-kind t small, change-kind l level)

  line-back : (now : ℕ) (s : List ℕ) (cs : List Change) → now ≤ t → changes_from signal_code t (walk_body n W.items (words_from (after q words) s)) ≡ read cs
      → changes_from signal_code now (walk_body n W.items (words_from q (change_line t l ++ s))) ≡ read (changed t l ∷ cs)
  line-back now s cs h e =
      ap (changes_from signal_code now) (line_walk s) ∙ off _ _ (le-ltb t now h) ∙ ap (λ o. onward o (λ ds. read (changed t l ∷ ds))) e

-- ---- all lines

-- a text is read after a time
abbrev Back : ℕ → ℕ → ℕ → List ℕ → List Change → Type 0
Back n q now s cs = changes_from signal_code now (walk_body n W.items (words_from q s)) ≡ read cs

nothing-back : (n q now : ℕ) → Back n q now [] []
unfolding words_from walk_body
nothing-back n q now = refl

pub changes-back : (n q now period l t : ℕ) (ls : List ℕ) → UpTo 1 ls → now ≤ t → t + length ls * period ≤ 10 ^ 14 → 0 < period
    → Back n q now (change_lines period l t ls) (changes_for period l t ls)
changes-back n q now period l t [] u h m p = nothing-back n q now
changes-back n q now period l t (k ∷ ls) u h m p =
    let fits : t + period + length ls * period ≤ 10 ^ 14 = omega arith in
    let rest : (r from : ℕ) → from ≤ t + period → Back n r from (change_lines period k (t + period) ls) (changes_for period k (t + period) ls)
    = λ r from j. changes-back n r from period k (t + period) ls u.1 j fits p in
    ⊎_elim
    (λ e. rw (eq-eqb k l e) (rest q now (omega arith)))
    (λ e. rw (ne_eqb k l e) (line-back n q t k (omega arith) u.0 now _ _ h (rest _ t (omega arith))))
    (equal_or_not k l)
