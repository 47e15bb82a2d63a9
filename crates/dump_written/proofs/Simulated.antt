-- A dump of what the simulated ESC writes reads back, and shows the line of the value that was simulated.
-- Assumes nothing.
use mathlib.Core.Path.{◌≡◌, subst, ap, ◌∙◌}
use mathlib.Core.Bool.{Bool, true, false}
use mathlib.Core.List.{List, [], ◌∷◌, map}
use Prim.Native.Nat.{ℕ, ◌+◌, ◌-◌, ◌%◌, ◌^◌, ◌≤◌, ◌<◌}
use native.Mathlib.Omega.{arith}
use lib.Dec.{ltb, lit≤, lit<}
use lib.ListN.{length}
use Rattle.dshot_reply_spec.proofs.Given.{second-given}
use Rattle.dshot_reply_spec.proofs.Simulated.{simulated-length, simulated-written}
use Rattle.dshot_reply_spec.specs.Answer.{given}
use Rattle.dshot_reply_spec.specs.Ascii.{ascii}
use Rattle.dshot_reply_spec.specs.Gcr.{reply_word}
use Rattle.dshot_reply_spec.specs.Simulate.{level_sample, word_levels, word_samples, simulated}
use Rattle.capture_file.proofs.AnswerLaws.{same-given}
use Rattle.capture_file.proofs.Listing.{simulated-listed, document-line}
use Rattle.capture_file.specs.File.{UpTo}
use Rattle.capture_file.specs.Line.{listed_value, line_of}
use Rattle.dump_spec.specs.Words.{Word}
use Rattle.dump_spec.specs.Dump.{asked, max_samples, read_dump}
use Rattle.dump_written.specs.Written.{Writable, is_plain, dump_of}
use Rattle.dump_written.proofs.Theorems.{shown_line, written-reads, written-line}

-- at mask 1 a sample is a level
samples-levels : (ls : List Bool) → UpTo 1 (map (level_sample 1) ls)
samples-levels [] = tt
samples-levels (true ∷ ls) = (lit≤ tt, samples-levels ls)
samples-levels (false ∷ ls) = (lit≤ tt, samples-levels ls)

word-levels : (w lead n : ℕ) → UpTo 1 (word_samples 3 w lead 1 n)
unfolding word_samples
word-levels w lead n = samples-levels (word_levels 3 w lead (n - lead - 63))

module _ (name : Word) (period : ℕ) (named : is_plain name ≡ true) (apart : 0 < period) (bounded : period < 2 ^ 32) where
  module _ (out : List ℕ) (v lead : ℕ) (l : List ℕ) (e : simulated 3 out v lead 1 ≡ given l) (room : length out ≤ max_samples) where
    simulated-levels : UpTo 1 l
    unfolding simulated
    simulated-levels =
        let h = second-given _ (ltb (length out) (lead + 69)) e in
        subst (UpTo 1) (same-given h.1) (word-levels (reply_word v) lead (length out))

    pub simulated-writable : Writable name period l
    simulated-writable = record {
      named = named;
      apart = apart;
      bounded = bounded;
      count = omega (arith, simulated-length 3 (lit< tt) out v lead 1 l e);
      levels = simulated-levels;
    }

    pub simulated-reads : read_dump (dump_of name period l) name (asked 0 period (length l)) ≡ given l
    simulated-reads = written-reads name period l simulated-writable

    pub simulated-shown : (extended : Bool) → shown_line extended (read_dump (dump_of name period l) name (asked 0 period (length l)))
        ≡ line_of (listed_value (reply_word v) (v % 4096) extended)
    simulated-shown extended = written-line name period l simulated-writable extended ∙ ap line_of (simulated-listed out v lead 1 l extended e)

  -- document 01's line, of a dump of the 160 samples that it names
  pub document-dump : (out : List ℕ) → length out ≡ 160 → (l : List ℕ) × (simulated 3 out 0xfff 10 1 ≡ given l)
      × (shown_line false (read_dump (dump_of name period l) name (asked 0 period (length l))) ≡ ascii "17bdf9 fff erpm 0\n")
  document-dump out h =
      let l = word_samples 3 (reply_word 0xfff) 10 1 (length out) in
      let e : simulated 3 out 0xfff 10 1 ≡ given l = simulated-written 3 (lit< tt) out 0xfff 10 1 (omega arith) (λ z. omega (arith, z)) in
      (l, e, written-line name period l (simulated-writable out 0xfff 10 l e (omega arith)) false ∙ document-line out l e)
