-- What the simulated ESC writes: the samples of the reply word. They render the word, are read as its value, and fill the buffer.
-- Assumes nothing.
use mathlib.Core.Path.{◌≡◌, sym, refl, ap, ◌∙◌}
use mathlib.Core.Bool.{Bool, true, false}
use mathlib.Core.List.{List, [], ◌∷◌, ◌++◌, map}
use Prim.Native.Nat.{ℕ, ◌+◌, ◌*◌, ◌-◌, ◌<◌, ◌≤◌}
use native.Mathlib.Omega.{arith}
use lib.Bits.{and_self}
use lib.Dec.{eqb, ltb}
use lib.ListN.{length, replicate, length-append, length-map, length-replicate}
use borrow.Author.Tests.{eqb-false, le-ltb, ltb-false, ne_eqb}
use Rattle.dshot_reply_spec.proofs.Decode.{start-edge}
use Rattle.dshot_reply_spec.proofs.Choice.{not-both, not_first}
use Rattle.dshot_reply_spec.proofs.SimulatedRenders.{length-bits, word-renders}
use Rattle.dshot_reply_spec.proofs.Theorems.{reply-reads}
use Rattle.dshot_reply_spec.specs.Answer.{given}
use Rattle.dshot_reply_spec.specs.Gcr.{reply_word}
use Rattle.dshot_reply_spec.specs.Reading.{sampled_reply}
use Rattle.dshot_reply_spec.specs.Render.{Renders}
use Rattle.dshot_reply_spec.specs.Runs.{levels}
use Rattle.dshot_reply_spec.specs.Simulate.{bit_levels, level_sample, simulated, word_levels, word_samples}
use Rattle.dshot_reply_spec.specs.Value.{reply_of}

-- samples written at a mask have the levels that they were written for
levels-simulated : (m : ℕ) (ls : List Bool) → (m ≡ 0 → ⊥) → levels m (map (level_sample m) ls) ≡ ls
levels-simulated m [] n = refl
levels-simulated m (true ∷ ls) n = rw (and_self m, ne_eqb m 0 n, levels-simulated m ls n)
levels-simulated m (false ∷ ls) n = ap (λ (l : List Bool). false ∷ l) (levels-simulated m ls n)

-- the lead, the word and the rest
levels-length : (s w lead m : ℕ) → length (word_levels s w lead m) ≡ lead + 21 * s + m
unfolding word_levels
levels-length s w lead m =
    omega (
      arith,
      length-append (replicate lead true) (bit_levels s true 21 w ++ replicate m true),
      length-append (bit_levels s true 21 w) (replicate m true),
      length-bits s true 21 w,
      length-replicate lead true,
      length-replicate m true,
    )

-- a word's samples fill a buffer that holds them
samples-length : (s w lead mask n : ℕ) → lead + 21 * s ≤ n → length (word_samples s w lead mask n) ≡ n
unfolding word_samples
samples-length s w lead mask n h = simp (length-map, levels-length) (omega arith)

-- a call that gives something has room and a mask, and gives the samples of the reply word
record Written (s : ℕ) (out : List ℕ) (v lead mask : ℕ) (l : List ℕ) : Type 0 where
  room : lead + 23 * s ≤ length out
  pins : mask ≡ 0 → ⊥
  samples : word_samples s (reply_word v) lead mask (length out) ≡ l

written : (s : ℕ) (out : List ℕ) (v lead mask : ℕ) (l : List ℕ) → simulated s out v lead mask ≡ given l → Written s out v lead mask l
unfolding simulated
written s out v lead mask l e =
    let p = not_first (ltb (length out) (lead + 23 * s)) e (λ f. not-both f refl) in
    let q = not_first (eqb mask 0) p.1 (λ f. not-both f refl) in
    let same = q.1 in record {
      room = ltb-false (length out) (lead + 23 * s) p.0;
      pins = eqb-false mask 0 q.0;
      samples = cc;
    }

module _ (s : ℕ) (pos : 0 < s) where
  -- a call with room and a mask gives the samples of the reply word
  pub simulated-written : (out : List ℕ) (v lead mask : ℕ) → lead + 23 * s ≤ length out → (mask ≡ 0 → ⊥)
      → simulated s out v lead mask ≡ given (word_samples s (reply_word v) lead mask (length out))
  unfolding simulated
  simulated-written out v lead mask h n = rw (le-ltb (length out) (lead + 23 * s) h, ne_eqb mask 0 n)

  -- what is written renders the reply word
  pub simulated-renders : (out : List ℕ) (v lead mask : ℕ) (l : List ℕ) → simulated s out v lead mask ≡ given l → Renders s (levels mask l) (reply_word v)
  unfolding word_samples
  simulated-renders out v lead mask l e =
      let w = written s out v lead mask l e in
      let m = length out - lead - 21 * s in
      rw (← w.samples, levels-simulated mask (word_levels s (reply_word v) lead m) w.pins)
      (word-renders s pos (reply_word v) lead m (start-edge v) (omega arith))

  -- and is read as the value
  pub simulated-reads : (out : List ℕ) (v lead mask : ℕ) (l : List ℕ) (extended : Bool) → simulated s out v lead mask ≡ given l → sampled_reply s l mask extended ≡ reply_of v extended
  simulated-reads out v lead mask l extended e = reply-reads s pos l mask extended v (simulated-renders out v lead mask l e)

  -- every slot of the buffer is written, and none more
  pub simulated-length : (out : List ℕ) (v lead mask : ℕ) (l : List ℕ) → simulated s out v lead mask ≡ given l → length l ≡ length out
  simulated-length out v lead mask l e =
      let w = written s out v lead mask l e in
      ap length (sym w.samples) ∙ samples-length s (reply_word v) lead mask (length out) (omega arith)
