-- The simulated ESC's capture of a word renders the word.
-- Assumes nothing.
use mathlib.Core.Path.{◌≡◌, sym, subst, refl, ap, ◌∙◌}
use mathlib.Core.Bool.{Bool, true, false, not}
use mathlib.Core.List.{List, [], ◌∷◌, ◌++◌, append_assoc}
use Prim.Native.Nat.{ℕ, zero, suc, ◌+◌, ◌*◌, ◌-◌, ◌/◌, ◌%◌, ◌^◌, ◌<◌, ◌≤◌}
use native.Mathlib.Nat.{mul-zero, mul-suc, mul-add, mul-one, mul_assoc, add-mul, add-zero, mod-one}
use native.Mathlib.Omega.{arith}
use lib.Dec.{eqb}
use lib.ListN.{length, take, replicate, length-append, length-replicate, replicate-append-replicate}
use lib.Seq.{take-append-add, take-append_seam}
use lib.Pow.{pow-add, mod-pow-add, split}
use borrow.Author.Tests.{eqb-true, eqb-false}
use Rattle.dshot_reply_spec.specs.Answer.{pick}
use Rattle.dshot_reply_spec.specs.Move.{bit}
use Rattle.dshot_reply_spec.specs.Render.{RenderedRuns, Renders, closed_low, open_end, run}
use Rattle.dshot_reply_spec.specs.Runs.{runs_word, sum}
use Rattle.dshot_reply_spec.specs.Simulate.{bit_levels, next_level, word_levels}

-- two bits of high samples close a low run and prolong a high one
ends : (s : ℕ) → 0 < s → (l : Bool) (c : ℕ) → 0 < c → RenderedRuns s l (c ∷ []) (replicate (s * c) l ++ replicate (2 * s) true)
ends s p true c h =
    subst (λ (ls : List Bool). RenderedRuns s true (c ∷ []) ls) (sym (replicate-append-replicate (s * c) (2 * s) true))
    (open_end true c (s * c + 2 * s) h (omega arith))
ends s p false c h = closed_low c (s * c) (2 * s) (h, omega arith, omega arith) (omega arith)

-- the word that follows from c bits of a run, with i bits w to come
abbrev word_from : ℕ → ℕ → ℕ → ℕ → ℕ
word_from acc c i w = acc * 2 ^ (c + i) + 2 ^ (c + i - 1) + w % 2 ^ i

record Rest (s : ℕ) (l : Bool) (c i w : ℕ) : Type 0 where
  ks : List ℕ
  total : sum ks ≡ c + i
  word : (acc : ℕ) → runs_word acc ks ≡ word_from acc c i w
  runs : RenderedRuns s l ks (replicate (s * c) l ++ (bit_levels s l i w ++ replicate (2 * s) true))

pub low_bits : (w i : ℕ) → w % 2 ^ suc i ≡ bit w i * 2 ^ i + w % 2 ^ i
low_bits w i =
    let e : suc i ≡ 1 + i = omega arith in
    ap (λ (n : ℕ). w % 2 ^ n) e ∙ mod-pow-add w 1 i

stay-word : (acc c i w : ℕ) → bit w i ≡ 0 → word_from acc (c + 1) i w ≡ word_from acc c (suc i) w
stay-word acc c i w b =
    let e : c + 1 + i ≡ c + suc i = omega arith in
    rw e (omega (arith, rw b at (low_bits w i)))

edge-word : (acc c i w : ℕ) → 0 < c → bit w i ≡ 1 → word_from (acc * 2 ^ c + 2 ^ (c - 1)) 1 i w ≡ word_from acc c (suc i) w
edge-word acc c i w h b =
    let e : c + (1 + i) ≡ c + suc i = omega arith in
    let f : c - 1 + (1 + i) ≡ c + suc i - 1 = omega arith in
    let g : 1 + i - 1 ≡ i = omega arith in
    let x : acc * 2 ^ c * 2 ^ (1 + i) ≡ acc * 2 ^ (c + suc i) = mul_assoc acc (2 ^ c) (2 ^ (1 + i)) ∙ ap (λ (n : ℕ). acc * n) (sym (pow-add 2 c (1 + i)) ∙ ap (λ (n : ℕ). 2 ^ n) e) in
    let y : 2 ^ (c - 1) * 2 ^ (1 + i) ≡ 2 ^ (c + suc i - 1) = sym (pow-add 2 (c - 1) (1 + i)) ∙ ap (λ (n : ℕ). 2 ^ n) f in
    rw g (omega (arith, add-mul (acc * 2 ^ c) (2 ^ (c - 1)) (2 ^ (1 + i)), x, y, rw b at (low_bits w i)))

step : (s : ℕ) (l n : Bool) (i w : ℕ) → next_level l (bit w i) ≡ n → bit_levels s l (suc i) w ≡ replicate s n ++ bit_levels s n i w
step s l n i w e = ap (λ (m : Bool). replicate s m ++ bit_levels s m i w) e

-- c bits of a level, and one more
longer : (s : ℕ) (l : Bool) (c : ℕ) (ls : List Bool) → replicate (s * (c + 1)) l ++ ls ≡ replicate (s * c) l ++ (replicate s l ++ ls)
longer s l c ls =
    let e : s * (c + 1) ≡ s * c + s = mul-add s c 1 ∙ ap (λ (n : ℕ). s * c + n) (mul-one s) in
    ap (λ (n : ℕ). replicate n l ++ ls) e ∙ ap (λ (x : List Bool). x ++ ls) (sym (replicate-append-replicate (s * c) s l)) ∙ append_assoc (replicate (s * c) l) (replicate s l) ls

zero_of : (x : ℕ) → x < 2 → (x ≡ 1 → ⊥) → x ≡ 0
zero_of zero lt n = refl
zero_of (suc zero) lt n = absurd (n refl)
zero_of (suc (suc x)) lt n = absurd (omega arith)

edge-rest : (s : ℕ) (l : Bool) (c i w : ℕ) → 0 < c → bit w i ≡ 1 → next_level l (bit w i) ≡ not l → Rest s (not l) 1 i w → Rest s l c (suc i) w
edge-rest s l c i w h b e r = record {
  ks = c ∷ r.ks;
  total = omega (arith, r.total);
  word = λ acc. r.word (acc * 2 ^ c + 2 ^ (c - 1)) ∙ edge-word acc c i w h b;
  runs = subst (λ (ls : List Bool). RenderedRuns s l (c ∷ r.ks) (replicate (s * c) l ++ ls))
      (ap (λ (n : ℕ). replicate n (not l) ++ (bit_levels s (not l) i w ++ replicate (2 * s) true)) (mul-one s)
      ∙ sym (append_assoc (replicate s (not l)) (bit_levels s (not l) i w) (replicate (2 * s) true))
      ∙ ap (λ (ls : List Bool). ls ++ replicate (2 * s) true) (sym (step s l (not l) i w e)))
      (run l c (s * c) r.ks (replicate (s * 1) (not l) ++ (bit_levels s (not l) i w ++ replicate (2 * s) true)) (h, omega arith, omega arith) r.runs);
}

stay-rest : (s : ℕ) (l : Bool) (c i w : ℕ) → bit w i ≡ 0 → next_level l (bit w i) ≡ l → Rest s l (c + 1) i w → Rest s l c (suc i) w
stay-rest s l c i w b e r = record {
  ks = r.ks;
  total = omega (arith, r.total);
  word = λ acc. r.word acc ∙ stay-word acc c i w b;
  runs = subst (λ (ls : List Bool). RenderedRuns s l r.ks ls)
      (longer s l c (bit_levels s l i w ++ replicate (2 * s) true)
      ∙ ap (λ (ls : List Bool). replicate (s * c) l ++ ls)
      (sym (append_assoc (replicate s l) (bit_levels s l i w) (replicate (2 * s) true)) ∙ ap (λ (ls : List Bool). ls ++ replicate (2 * s) true) (sym (step s l l i w e))))
      r.runs;
}

rest : (s : ℕ) → 0 < s → (l : Bool) (c i w : ℕ) → 0 < c → Rest s l c i w
rest s p l c zero w h = record {
  ks = c ∷ [];
  total = omega arith;
  word = λ acc. rw (add-zero c, mod-one w) (omega arith);
  runs = ends s p l c h;
}
rest s p l c (suc i) w h = go (eqb (bit w i) 1) refl (rest s p (not l) 1 i w (omega arith)) (rest s p l (c + 1) i w (omega arith))
  where
    go : (t : Bool) → eqb (bit w i) 1 ≡ t → Rest s (not l) 1 i w → Rest s l (c + 1) i w → Rest s l c (suc i) w
    go true e r q = edge-rest s l c i w h (eqb-true (bit w i) 1 e) (ap (λ (t : Bool). pick t (not l) l) e) r
    go false e r q = stay-rest s l c i w (zero_of (bit w i) (omega arith) (eqb-false (bit w i) 1 e)) (ap (λ (t : Bool). pick t (not l) l) e) q

pub length-bits : (s : ℕ) (l : Bool) (i w : ℕ) → length (bit_levels s l i w) ≡ s * i
length-bits s l zero w = sym (mul-zero s)
length-bits s l (suc i) w =
    length-append (replicate s (next_level l (bit w i))) (bit_levels s (next_level l (bit w i)) i w)
    ∙ omega (arith, length-replicate s (next_level l (bit w i)), length-bits s (next_level l (bit w i)) i w, mul-suc s i)

some-high : (k m : ℕ) → k ≤ m → take k (replicate m true) ≡ replicate k true
some-high k m h =
    let e : m ≡ k + (m - k) = omega arith in
    let f : k ≡ length (replicate k true) = sym (length-replicate k true) in
    ap (λ (n : ℕ). take k (replicate n true)) e ∙ ap (take k) (sym (replicate-append-replicate k (m - k) true))
    ∙ ap (λ (n : ℕ). take n (replicate k true ++ replicate (m - k) true)) f
    ∙ take-append_seam (replicate k true) (replicate (m - k) true)

read-part : (s w m : ℕ) → 2 * s ≤ m → take (23 * s) (bit_levels s true 21 w ++ replicate m true) ≡ bit_levels s true 21 w ++ replicate (2 * s) true
read-part s w m h =
    let e : length (bit_levels s true 21 w) + 2 * s ≡ 23 * s = omega (arith, length-bits s true 21 w) in
    ap (λ (n : ℕ). take n (bit_levels s true 21 w ++ replicate m true)) (sym e)
    ∙ take-append-add (bit_levels s true 21 w) (replicate m true) (2 * s)
    ∙ ap (λ (ls : List Bool). bit_levels s true 21 w ++ ls) (some-high (2 * s) m h)

-- the simulated capture of a word that has its start edge renders the word
pub word-renders : (s : ℕ) → 0 < s → (w lead m : ℕ) → w / 2 ^ 20 ≡ 1 → 2 * s ≤ m → Renders s (word_levels s w lead m) w
unfolding word_levels
word-renders s p w lead m b h =
    let r = rest s p false 1 20 w (omega arith) in
    let f : bit w 20 ≡ 1 = ap (λ (n : ℕ). n % 2) b in
    let first : bit_levels s true 21 w ≡ replicate s false ++ bit_levels s false 20 w = step s true false 20 w (ap (λ (n : ℕ). pick (eqb n 1) false true) f) in
    record {
      lead = lead;
      after = bit_levels s true 21 w ++ replicate m true;
      runs = r.ks;
      split = refl;
      room = omega (arith, length-append (bit_levels s true 21 w) (replicate m true), length-bits s true 21 w);
      bits = r.total;
      word = r.word 0 ∙ omega (arith, split w 20);
      rendered = subst (λ (ls : List Bool). RenderedRuns s false r.ks ls)
          (ap (λ (n : ℕ). replicate n false ++ (bit_levels s false 20 w ++ replicate (2 * s) true)) (mul-one s)
          ∙ sym (append_assoc (replicate s false) (bit_levels s false 20 w) (replicate (2 * s) true))
          ∙ sym (read-part s w m h ∙ ap (λ (ls : List Bool). ls ++ replicate (2 * s) true) first))
          r.runs;
    }
