-- Laws of the buffer into which the simulated ESC writes a word, s samples a bit, and of its answers.
-- Assumes nothing.
use mathlib.Core.Path.{◌≡◌, sym, refl, ap, ◌∙◌}
use mathlib.Core.Bool.{Bool, true, false}
use mathlib.Core.List.{List, [], ◌∷◌, ◌++◌, map, append_assoc, append-nil}
use Prim.Native.Nat.{ℕ, zero, suc, ◌+◌, ◌-◌, ◌*◌, ◌≤◌, ◌<◌}
use native.Mathlib.Omega.{arith}
use lib.ListN.{length, take, drop, replicate, length-append, length-replicate, length-map, replicate-append-replicate}
use lib.Seq.{take-add, take_at, drop_at, drop-drop, length-take-le, take_all}
use borrow.Author.Tests.{ltb-false, eqb-false}
use lib.Dec.{eqb, ltb}
use Rattle.dshot_reply_spec.proofs.PeriodLaws.{grows, halved, scaled-more, scaled-done}
use Rattle.dshot_reply_spec.proofs.Simulated.{simulated-written}
use Rattle.dshot_reply_spec.proofs.SimulatedRenders.{length-bits}
use Rattle.dshot_reply_spec.specs.Answer.{filled, given, pick, refusal_number, refused}
use Rattle.dshot_reply_spec.specs.Refusals.{no_mask, wrong_length}
use Rattle.dshot_reply_spec.specs.Gcr.{reply_word}
use Rattle.dshot_reply_spec.specs.Move.{bit}
use Rattle.dshot_reply_spec.specs.Simulate.{bit_levels, level_sample, next_level, simulated, word_levels, word_samples}
use Rattle.dshot_reply.specs.Answers.{simulate_error_number}
use Rattle.dshot_reply.specs.Steps.{simulated_refusal}
use Rattle.dshot_reply.specs.declared.simulate.SimulateError.{SimulateError}
use Rattle.dshot_reply.specs.declared.simulate.SimulateError.TheVariants.{PeriodOutOfRange, NoMask, WrongLength}

map_same : (f : Bool → ℕ) (n : ℕ) (b : Bool) → map f (replicate n b) ≡ replicate n (f b)
map_same f zero b = refl
map_same f (suc n) b = ap (λ (l : List ℕ). f b ∷ l) (map_same f n b)

map-join : (f : Bool → ℕ) (xs ys : List Bool) → map f (xs ++ ys) ≡ map f xs ++ map f ys
map-join f [] ys = refl
map-join f (x ∷ xs) ys = ap (λ (l : List ℕ). f x ∷ l) (map-join f xs ys)

-- the samples of all bits of w, and the buffer of n when the first k of those samples are written
pub all_samples : ℕ → ℕ → ℕ → List ℕ
all_samples s w m = map (level_sample m) (bit_levels s true 21 w)

abbrev pub after : ℕ → ℕ → ℕ → ℕ → ℕ → ℕ → List ℕ
after s w lead m n k = (replicate lead m ++ take k (all_samples s w m)) ++ replicate (n - lead - k) m

-- the samples of the lowest i bits after the level l are what is left after k samples
abbrev pub Left : ℕ → ℕ → ℕ → Bool → ℕ → ℕ → Type 0
Left s w m l i k = map (level_sample m) (bit_levels s l i w) ≡ drop k (all_samples s w m)

module _ (s w m : ℕ) where
  pub left-start : Left s w m true 21 0
  unfolding all_samples
  left-start = refl

  -- what is left begins with the samples of the next bit
  left_split : (l : Bool) (i k : ℕ) → Left s w m l (suc i) k
      → let b = next_level l (bit w i) in drop k (all_samples s w m) ≡ replicate s (level_sample m b) ++ map (level_sample m) (bit_levels s b i w)
  left_split l i k e =
      let b = next_level l (bit w i) in
      sym e ∙ map-join (level_sample m) (replicate s b) (bit_levels s b i w)
      ∙ ap (λ (z : List ℕ). z ++ map (level_sample m) (bit_levels s b i w)) (map_same (level_sample m) s b)

  pub left-next : (l : Bool) (i k : ℕ) → Left s w m l (suc i) k → Left s w m (next_level l (bit w i)) i (k + s)
  left-next l i k e =
      let b = next_level l (bit w i) in
      let x = level_sample m b in
      sym (drop_at (replicate s x) (map (level_sample m) (bit_levels s b i w)) s (length-replicate s x))
      ∙ ap (drop s) (sym (left_split l i k e)) ∙ drop-drop s k (all_samples s w m)

  length-all : length (all_samples s w m) ≡ 21 * s
  unfolding all_samples
  length-all = length-map (bit_levels s true 21 w) (level_sample m) ∙ omega (arith, length-bits s true 21 w)

module _ (s w lead m n : ℕ) (fits : lead + 21 * s ≤ n) where
  pub after-start : replicate n m ≡ after s w lead m n 0
  after-start =
      let e : n ≡ lead + (n - lead - 0) = omega arith in
      ap (λ (k : ℕ). replicate k m) e ∙ sym (replicate-append-replicate lead (n - lead - 0) m)
      ∙ ap (λ (l : List ℕ). l ++ replicate (n - lead - 0) m) (sym (append-nil (replicate lead m)))

  -- the next bit's samples, put over what the buffer has there
  pub after_next : (l : Bool) (i k : ℕ) → k + s ≤ 21 * s → Left s w m l (suc i) k
      → let out = after s w lead m n k in
      take (lead + k) out ++ (replicate s (level_sample m (next_level l (bit w i))) ++ drop s (drop (lead + k) out)) ≡ after s w lead m n (k + s)
  after_next l i k h e =
      let x = level_sample m (next_level l (bit w i)) in
      let all = all_samples s w m in
      let front = replicate lead m ++ take k all in
      let j = n - lead - (k + s) in
      let len : length front ≡ lead + k = length-append (replicate lead m) (take k all) ∙ omega (arith, length-replicate lead m, length-take-le k all (omega (arith, length-all s w m))) in
      let room : n - lead - k ≡ s + j = omega arith in
      let t : take (k + s) all ≡ take k all ++ replicate s x = take-add k s all ∙ rw (left_split s w m l i k e, take_at (replicate s x) _ s (length-replicate s x)) in
      rw (take_at front _ (lead + k) len, drop_at front _ (lead + k) len, room, ← replicate-append-replicate s j m, drop_at (replicate s m) _ s (length-replicate s m), t)
      (simp append_assoc)

  pub after-end : after s w lead m n (21 * s) ≡ word_samples s w lead m n
  unfolding word_samples word_levels all_samples
  after-end =
      let j = n - lead - 21 * s in
      ap (λ (l : List ℕ). (replicate lead m ++ l) ++ replicate j m) (take_all (21 * s) (all_samples s w m) (omega (arith, length-all s w m)))
      ∙ append_assoc (replicate lead m) (all_samples s w m) (replicate j m)
      ∙ sym
      (map-join (level_sample m) (replicate lead true) (bit_levels s true 21 w ++ replicate j true)
      ∙ ap (λ (l : List ℕ). l ++ map (level_sample m) (bit_levels s true 21 w ++ replicate j true)) (map_same (level_sample m) lead true)
      ∙ ap (λ (l : List ℕ). replicate lead m ++ l)
      (map-join (level_sample m) (bit_levels s true 21 w) (replicate j true)
      ∙ ap (λ (l : List ℕ). all_samples s w m ++ l) (map_same (level_sample m) j true)))

-- ---- the answers

-- no refusal has the number 0
pub nonzero : (e : SimulateError) → simulate_error_number e ≡ 0 → ⊥
nonzero PeriodOutOfRange h = omega arith
nonzero NoMask h = omega arith
nonzero WrongLength h = omega arith

module _ (s : ℕ) (out : List ℕ) (v lead m : ℕ) where
  -- a refusal has the number of the simulated ESC's, and leaves the buffer
  pub refused_so : (n : ℕ) → n ≡ simulated_refusal s (length out) lead m → (n ≡ 0 → ⊥)
      → (n ≡ refusal_number (simulated s out v lead m)) × (out ≡ filled (λ l. l) out (simulated s out v lead m))
  unfolding simulated_refusal simulated
  refused_so n e no_zero = go (ltb (length out) (lead + 23 * s)) (eqb m 0) e
    where
      go : (b c : Bool) → n ≡ pick b wrong_length (pick c no_mask 0)
          → (n ≡ refusal_number (pick b (refused wrong_length) (pick c (refused no_mask) (given (word_samples s (reply_word v) lead m (length out))))))
          × (out ≡ filled (λ l. l) out (pick b (refused wrong_length) (pick c (refused no_mask) (given (word_samples s (reply_word v) lead m (length out))))))
      go true c q = (q, refl)
      go false true q = (q, refl)
      go false false q = absurd (no_zero q)

  -- a call that is not refused has room and a mask
  pub accepted : 0 ≡ simulated_refusal s (length out) lead m → (lead + 23 * s ≤ length out) × (m ≡ 0 → ⊥)
  unfolding simulated_refusal
  accepted z = go (ltb (length out) (lead + 23 * s)) refl (eqb m 0) refl z
    where
      go : (b : Bool) → ltb (length out) (lead + 23 * s) ≡ b → (c : Bool) → eqb m 0 ≡ c → ◌≡◌ {A = ℕ} 0 (pick b wrong_length (pick c no_mask 0)) → (lead + 23 * s ≤ length out) × (m ≡ 0 → ⊥)
      go true p c q z = absurd (omega arith)
      go false p true q z = absurd (omega arith)
      go false p false q z = (ltb-false (length out) (lead + 23 * s) p, eqb-false m 0 q)

  pub all-written : 0 < s → 0 ≡ simulated_refusal s (length out) lead m
      → (0 ≡ refusal_number (simulated s out v lead m)) × (word_samples s (reply_word v) lead m (length out) ≡ filled (λ l. l) out (simulated s out v lead m))
  all-written pos z =
      let a = accepted z in
      (rw (simulated-written s pos out v lead m a.0 a.1), rw (simulated-written s pos out v lead m a.0 a.1))

-- for the goals of `simulate_reply`
pub ruleset written_cases = (accepted, all-written, nonzero, refused_so)

-- for the goals of `period_value`
pub ruleset period_cases = (grows, halved, scaled-more, scaled-done)
