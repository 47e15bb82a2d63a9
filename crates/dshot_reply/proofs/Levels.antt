-- The levels of samples one at a time: the first low sample, the end of a run, and parts of the samples.
-- Assumes nothing.
use mathlib.Core.Path.{◌≡◌, sym, refl, ap, subst, ◌∙◌}
use mathlib.Core.Bool.{Bool, true, false, beq, not, ◌&&◌}
use mathlib.Core.List.{List, [], ◌∷◌, map}
use Prim.Native.Nat.{ℕ, zero, suc, zero-le, suc-le-suc, ◌+◌, ◌*◌, ◌-◌, ◌<◌, ◌≤◌, min}
use native.Mathlib.Nat.{add-zero}
use native.Mathlib.Omega.{arith}
use lib.Dec.{ltb}
use lib.ListN.{length, take, drop, length-map, length-drop}
use lib.Seq.{drop-drop, take_all, length-take-le}
use borrow.Author.Tests.{le-leb, lt-leb, le-ltb, lt-ltb, ltb-true, ltb-false}
use Rattle.std.specs.Prelude.{Option, Some, None, MatchOption, cond, fold}
use Rattle.std.specs.List.{position, position_or_len, prefix_len}
use Rattle.std.specs.Simd.{first_chunks}
use Rattle.std.proofs.lemmas.List.Recursion.{is_position_or_len}
use Rattle.dshot_reply_spec.specs.Answer.{pick, refused}
use Rattle.dshot_reply_spec.specs.Refusals.{no_reply}
use Rattle.dshot_reply_spec.specs.Runs.{assemble, first_low, from_levels, high, levels, runs_of, transitions_of}
use Rattle.dshot_reply.specs.Steps.{same_for}

-- ---- how long a level lasts

-- the first low sample is where the high ones end
pub low-ends-high : (ls : List Bool) → first_low ls ≡ same_for true ls
low-ends-high [] = refl
low-ends-high (true ∷ ls) = ap suc (low-ends-high ls)
low-ends-high (false ∷ ls) = refl

pick-most : (t : Bool) (j k : ℕ) → j ≤ k → pick t (suc j) 0 ≤ suc k
pick-most true j k h = suc-le-suc h
pick-most false j k h = zero-le

pub same-most : (l : Bool) (ls : List Bool) → same_for l ls ≤ length ls
same-most l [] = zero-le
same-most l (b ∷ ls) = pick-most (beq b l) (same_for l ls) (length ls) (same-most l ls)

same-within : (m : ℕ) (l : Bool) (s : List ℕ) → same_for l (levels m s) ≤ length s
same-within m l s = omega (arith, same-most l (levels m s), length-map s (high m))

-- a run ends at the first sample that is not at its level
module _ (m : ℕ) (l : Bool) (s : List ℕ) where
  past : ℕ → Bool
  past x = not (beq (high m x) l)

  step : (b : Bool) (k : ℕ) → pick b (suc k) 0 ≡ cond (not b) 0 (1 + k)
  step true k = omega arith
  step false k = refl

  ends : same_for l (levels m s) ≡ position_or_len (λ x. not (beq (high m x) l)) s
  ends = is_position_or_len (λ t. same_for l (levels m t)) (λ x. not (beq (high m x) l)) refl (λ x t. step (beq (high m x) l) (same_for l (levels m t))) s

  told : Option ℕ → Type 0
  told o = MatchOption o (same_for l (levels m s) ≡ length s) (λ n. (n ≡ same_for l (levels m s)) × (n < length s))

  found : ℕ → Option ℕ
  found k = cond (ltb k (length s)) (Some k) None

  off_at : told (position (λ x. not (beq (high m x) l)) s)
  unfolding told found
  off_at = subst told (ap found ends) (go (ltb (same_for l (levels m s)) (length s)) refl)
    where
      go : (t : Bool) → ltb (same_for l (levels m s)) (length s) ≡ t → told (cond t (Some (same_for l (levels m s))) None)
      go true e = (refl, ltb-true (same_for l (levels m s)) (length s) e)
      go false e =
          let h = ltb-false (same_for l (levels m s)) (length s) e in
          omega (arith, h, same-within m l s)

  pub off_some : (o : Option ℕ) (n : ℕ) → o ≡ position (λ x. not (beq (high m x) l)) s → o ≡ Some n → (n ≡ same_for l (levels m s)) × (n < length s)
  unfolding told
  off_some o n p e = subst told (sym p ∙ e) off_at

  pub off_none : (o : Option ℕ) → o ≡ position (λ x. not (beq (high m x) l)) s → o ≡ None → same_for l (levels m s) ≡ length s
  unfolding told
  off_none o p e = subst told (sym p ∙ e) off_at

  some_off : (n : ℕ) → n ≡ same_for l (levels m s) → n < length s → Some n ≡ position (λ x. not (beq (high m x) l)) s
  unfolding found
  some_off n e h = sym (ap (λ (t : Bool). cond t (Some n) None) (lt-ltb n (length s) h)) ∙ ap found (e ∙ ends)

  none_off : same_for l (levels m s) ≡ length s → None ≡ position (λ x. not (beq (high m x) l)) s
  unfolding found
  none_off e = sym (ap (λ (t : Bool). cond t (Some (length s)) None) (le-ltb (length s) (length s) (omega arith))) ∙ ap found (sym e ∙ ends)

-- if every one of some samples is high, no one is low
pub all-high : (m : ℕ) (b : Bool) (s : List ℕ) → fold (λ c x. c && high m x) b s ≡ true → (b ≡ true) × (first_low (levels m s) ≡ length s)
all-high m b [] e = (e, refl)
all-high m b (x ∷ s) e = go b (high m x) refl (all-high m (b && high m x) s e)
  where
    go : (c h : Bool) → high m x ≡ h → ((c && h) ≡ true) × (first_low (levels m s) ≡ length s) → (c ≡ true) × (first_low (levels m (x ∷ s)) ≡ length (x ∷ s))
    go true true q r = (refl, rw q (ap suc r.1))
    go true false q r = absurd (let z : ◌≡◌ {A = ℕ} 0 1 = cc in omega arith)
    go false h q r = absurd (let z : ◌≡◌ {A = ℕ} 0 1 = cc in omega arith)

-- ---- parts

map-take : (f : ℕ → Bool) (n : ℕ) (s : List ℕ) → map f (take n s) ≡ take n (map f s)
map-take f zero s = refl
map-take f (suc n) [] = refl
map-take f (suc n) (x ∷ s) = ap (λ (l : List Bool). f x ∷ l) (map-take f n s)

pub map-drop : (f : ℕ → Bool) (n : ℕ) (s : List ℕ) → map f (drop n s) ≡ drop n (map f s)
map-drop f zero s = refl
map-drop f (suc n) [] = refl
map-drop f (suc n) (x ∷ s) = map-drop f n s

-- the levels of a part of the samples are that part of the levels
levels-part : (m a n : ℕ) (s : List ℕ) → levels m (take n (drop a s)) ≡ take n (drop a (levels m s))
levels-part m a n s = map-take (high m) n (drop a s) ∙ ap (take n) (map-drop (high m) a s)

-- a part of at most n, which the end of the samples may cut
pub levels-most : (m a n : ℕ) (s : List ℕ) → levels m (take (min (length s - a) n) (drop a s)) ≡ take n (drop a (levels m s))
levels-most m a n s = ap (levels m) (go (ltb (length s - a) n) refl) ∙ levels-part m a n s
  where
    all : (k : ℕ) → length s - a ≤ k → take k (drop a s) ≡ drop a s
    all k h = take_all k (drop a s) (omega (arith, length-drop a s))

    go : (t : Bool) → ltb (length s - a) n ≡ t → take (min (length s - a) n) (drop a s) ≡ take n (drop a s)
    go true e =
        let h = ltb-true (length s - a) n e in
        let q : min (length s - a) n ≡ length s - a = omega arith in
        rw q (all (length s - a) (omega arith) ∙ sym (all n (omega arith)))
    go false e =
        let h = ltb-false (length s - a) n e in
        let q : min (length s - a) n ≡ n = omega arith in
        rw q

-- ---- the start

first_low-le : (ls : List Bool) → first_low ls ≤ length ls
first_low-le ls = rw (low-ends-high ls) (same-most true ls)

start-le : (m : ℕ) (s : List ℕ) → first_low (levels m s) ≤ length s
start-le m s = rw (length-map s (high m)) at (first_low-le (levels m s))

-- The first low sample of a part from the start is that of the whole. If the part has none, the whole has none there.
first_low-part : (k : ℕ) (ls : List Bool) → k ≤ length ls → first_low (take k ls) < k → first_low ls ≡ first_low (take k ls)
first_low-part zero ls l h = absurd (omega arith)
first_low-part (suc k) [] l h = absurd (omega arith)
first_low-part (suc k) (true ∷ ls) l h = ap suc (first_low-part k ls (omega arith) (omega arith))
first_low-part (suc k) (false ∷ ls) l h = refl

first_low-past : (k : ℕ) (ls : List Bool) → k ≤ length ls → first_low (take k ls) ≡ k → k ≤ first_low ls
first_low-past zero ls l h = zero-le
first_low-past (suc k) [] l h = absurd (omega arith)
first_low-past (suc k) (true ∷ ls) l h = suc-le-suc (first_low-past k ls (omega arith) (omega arith))
first_low-past (suc k) (false ∷ ls) l h = absurd (omega arith)

first_low-over : (k : ℕ) (ls : List Bool) → k ≤ length ls → first_low (take k ls) ≡ k → first_low ls ≡ first_low (drop k ls) + k
first_low-over zero ls l h = sym (add-zero (first_low ls))
first_low-over (suc k) [] l h = absurd (omega arith)
first_low-over (suc k) (true ∷ ls) l h = omega (arith, first_low-over k ls (omega arith) (omega arith))
first_low-over (suc k) (false ∷ ls) l h = absurd (omega arith)

-- past k high samples
pub high-front : (m k : ℕ) (s : List ℕ) → k ≤ length s → first_low (levels m (take k s)) ≡ k → first_low (levels m s) ≡ first_low (levels m (drop k s)) + k
high-front m k s l e =
    first_low-over k (levels m s) (omega (arith, length-map s (high m))) (sym (ap first_low (map-take (high m) k s)) ∙ e)
    ∙ ap (λ (t : List Bool). first_low t + k) (sym (map-drop (high m) k s))

-- the first p samples are high
abbrev pub High : ℕ → ℕ → List ℕ → Type 0
High m p s = (p ≤ length s) × (first_low (levels m s) ≡ p + first_low (levels m (drop p s)))

high_none : (m : ℕ) (s : List ℕ) → High m 0 s
high_none m s = (zero-le, omega arith)

high_more : (m p : ℕ) (s : List ℕ) → 8 ≤ length s → fold (λ c x. c && high m x) true (take 8 s) ≡ true → High m p (drop 8 s) → High m (8 + p) s
high_more m p s l e h =
    let eight : first_low (levels m (take 8 s)) ≡ 8 = (all-high m true (take 8 s) e).1 ∙ length-take-le 8 s l in
    let further = ap (λ (t : List ℕ). first_low (levels m t)) (drop-drop p 8 s) in
    (omega (arith, h.0, length-drop 8 s), omega (arith, high-front m 8 s l eight, h.1, further))

-- how many of k groups of eight, from the first on, are high
abbrev high_groups : ℕ → ℕ → List ℕ → ℕ
high_groups m k s = prefix_len (fold (λ c x. c && high m x) true) (first_chunks 8 k s)

one_more : (m j : ℕ) (s : List ℕ) (b : Bool) → 8 ≤ length s → fold (λ c x. c && high m x) true (take 8 s) ≡ b → High m (8 * j) (drop 8 s) → High m (8 * cond b (1 + j) 0) s
one_more m j s true l e h =
    let n : 8 + 8 * j ≡ 8 * (1 + j) = omega arith in
    subst (λ (p : ℕ). High m p s) n (high_more m (8 * j) s l e h)
one_more m j s false l e h = high_none m s

pub groups_high : (m k : ℕ) (s : List ℕ) → k * 8 ≤ length s → High m (8 * high_groups m k s) s
groups_high m zero s h = high_none m s
groups_high m (suc k) s h =
    let further = groups_high m k (drop 8 s) (omega (arith, length-drop 8 s)) in
    one_more m (high_groups m k (drop 8 s)) s (fold (λ c x. c && high m x) true (take 8 s)) (omega arith) refl further

-- the first low sample lies past the high ones
module _ (m p : ℕ) (s : List ℕ) (passed : High m p s) where
  moved : same_for true (levels m s) ≡ p + same_for true (levels m (drop p s))
  moved = omega (arith, passed.1, low-ends-high (levels m s), low-ends-high (levels m (drop p s)))

  pub past_some : (o : Option ℕ) (n : ℕ) → o ≡ position (λ x. not (beq (high m x) true)) (drop p s) → o ≡ Some n → Some (p + n) ≡ position (λ x. not (beq (high m x) true)) s
  past_some o n q e =
      let off = off_some m true (drop p s) o n q e in
      some_off m true s (p + n) (omega (arith, moved, off.0)) (omega (arith, off.1, length-drop p s))

  pub past_none : (o : Option ℕ) → o ≡ position (λ x. not (beq (high m x) true)) (drop p s) → o ≡ None → None ≡ position (λ x. not (beq (high m x) true)) s
  past_none o q e = none_off m true s (omega (arith, moved, passed.0, off_none m true (drop p s) o q e, length-drop p s))

-- the two cases of `transitions_of`, with the start as the code has it
pub no_start : (t m : ℕ) (s : List ℕ) (st : ℕ) → st ≡ first_low (levels m s) → length s - st < 19 * t → transitions_of t s m ≡ refused no_reply
unfolding transitions_of from_levels
no_start t m s st e h = rw (← e, length-map s (high m), lt-leb (19 * t) (length s - st) h)

pub a-start : (t m : ℕ) (s : List ℕ) (st : ℕ) → st ≡ first_low (levels m s) → 19 * t ≤ length s - st
    → transitions_of t s m ≡ assemble (runs_of t (take (23 * t) (drop st (levels m s))))
unfolding transitions_of from_levels
a-start t m s st e h = rw (← e, length-map s (high m), le-leb (19 * t) (length s - st) h)

-- the search among the first k samples, where a start may be
module _ (m k : ℕ) (s : List ℕ) (within : k ≤ length s) where
  low-of-part : first_low (levels m (take k s)) ≡ first_low (take k (levels m s))
  low-of-part = ap first_low (map-take (high m) k s)

  pub low_some : (o : Option ℕ) (n : ℕ) → o ≡ position (λ x. not (beq (high m x) true)) (take k s) → o ≡ Some n → (n ≡ first_low (levels m s)) × (n < k)
  low_some o n q e =
      let off = off_some m true (take k s) o n q e in
      let here : n ≡ first_low (levels m (take k s)) = off.0 ∙ sym (low-ends-high (levels m (take k s))) in
      let part : first_low (levels m s) ≡ first_low (take k (levels m s)) =
      first_low-part k (levels m s) (omega (arith, length-map s (high m))) (omega (arith, here, low-of-part, off.1, length-take-le k s within)) in
      (omega (arith, here, low-of-part, part), omega (arith, off.1, length-take-le k s within))

  pub low_none : (o : Option ℕ) → o ≡ position (λ x. not (beq (high m x) true)) (take k s) → o ≡ None → k ≤ first_low (levels m s)
  low_none o q e =
      let all : first_low (levels m (take k s)) ≡ k =
      low-ends-high (levels m (take k s)) ∙ off_none m true (take k s) o q e ∙ length-take-le k s within in
      first_low-past k (levels m s) (omega (arith, length-map s (high m))) (sym low-of-part ∙ all)

  pub start_none : (t : ℕ) → length s < k + 19 * t → k ≤ first_low (levels m s) → transitions_of t s m ≡ refused no_reply
  start_none t h q = no_start t m s (first_low (levels m s)) refl (omega (arith, q, start-le m s))
