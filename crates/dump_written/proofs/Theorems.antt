-- What is written for levels reads back as those levels, and a dump shows the line of the capture that it was written for.
-- Assumes nothing.
use mathlib.Core.Path.{◌≡◌, ap, ◌∙◌}
use mathlib.Core.Bool.{Bool}
use mathlib.Core.List.{List, ◌++◌}
use Prim.Native.Nat.{ℕ, ◌+◌, ◌*◌, ◌^◌, ◌≤◌}
use native.Mathlib.Nat.{mul-le-mul_right}
use native.Mathlib.Omega.{arith}
use lib.Dec.{lit≤}
use lib.ListN.{length}
use borrow.Author.Tests.{eq-eqb, ne_eqb, lt-leb, le-ltb}
use Rattle.dshot_reply_spec.specs.Answer.{Answer, given, and_then}
use Rattle.capture_file.specs.Line.{listed_of, line_of}
use Rattle.dump_spec.specs.Words.{Word}
use Rattle.dump_spec.specs.Kinds.{no_level}
use Rattle.dump_spec.specs.Walk as W
use Rattle.dump_spec.specs.Signal.{Outcome, read, onward, never, signal_from}
use Rattle.dump_spec.specs.Levels.{samples_from}
use Rattle.dump_spec.specs.Dump.{asked, head_at, changes_of, max_samples, in_range, sampled_levels, with_levels, dump_levels, answered, read_dump}
use Rattle.dump_spec.proofs.Choices.{on}
use Rattle.dump_written.specs.Written.{Writable, declarations, change_lines, dump_of}
use Rattle.dump_written.proofs.NameLaws.{plain}
use Rattle.dump_written.proofs.LevelLaws.{changes_for, samples-back, all-levels}
use Rattle.dump_written.proofs.ChangesBack.{changes-back}
use Rattle.dump_written.proofs.DeclarationsBack.{changes_place, declared-once}

-- the line that a reading shows, as of a capture with mask 1
abbrev pub shown_line : Bool → Answer (List ℕ) → List ℕ
shown_line extended a = line_of (and_then a (λ samples. listed_of samples 1 extended))

module _ (name : Word) (period : ℕ) (ls : List ℕ) (w : Writable name period ls) where
  all-times : 0 + length ls * period ≤ 10 ^ 14
  all-times = omega (arith, mul-le-mul_right period w.count)

  changes-read : changes_of (dump_of name period ls) name ≡ read (changes_for period no_level 0 ls)
  unfolding changes_of head_at dump_of
  changes-read =
      let text = declarations name ++ change_lines period no_level 0 ls in
      let n = length text in
      ap (λ (v : Word). signal_from v never (head_at text W.declaration 0)) (plain name w.named).asked
      ∙ declared-once name w.named n (change_lines period no_level 0 ls)
      ∙ changes-back n (changes_place name) 0 period no_level 0 ls w.levels (lit≤ tt) all-times w.apart

  in-range : {A : Type 0} (next : Outcome A) → in_range (asked 0 period (length ls)) next ≡ next
  unfolding in_range
  in-range next = rw (
    ne_eqb period 0 (λ e. omega arith),
    lt-leb (2 ^ 32) period w.bounded,
    le-ltb max_samples (length ls) w.count,
  )

  sampled : sampled_levels (dump_of name period ls) name (asked 0 period (length ls)) ≡ read ls
  unfolding sampled_levels
  sampled =
      in-range _
      ∙ ap (λ o. onward o (λ cs. read (samples_from no_level cs period 0 (length ls)))) changes-read
      ∙ ap read (samples-back period no_level 0 ls w.apart)

  pub written-reads : read_dump (dump_of name period ls) name (asked 0 period (length ls)) ≡ given ls
  unfolding read_dump dump_levels with_levels
  written-reads =
      ap (λ o. answered (onward o with_levels)) sampled
      ∙ ap answered (on _ _ (eq-eqb _ _ (all-levels 0 ls w.levels ∙ omega arith)))

  -- the dump shows the capture's line
  pub written-line : (extended : Bool)
      → shown_line extended (read_dump (dump_of name period ls) name (asked 0 period (length ls))) ≡ line_of (listed_of ls 1 extended)
  written-line extended = ap (shown_line extended) written-reads
