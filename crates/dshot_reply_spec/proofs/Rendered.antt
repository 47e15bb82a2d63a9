-- A capture that renders a word is read as that word. If its last run is too long and stays open, it is read as no reply.
-- Assumes nothing.
use mathlib.Core.Path.{◌≡◌, sym, refl, ap, ◌∙◌}
use mathlib.Core.Logic.{◌⊎◌, inl, inr}
use mathlib.Core.Bool.{Bool, true, false, not}
use mathlib.Core.List.{List, [], ◌∷◌, ◌++◌, map, append-nil}
use Prim.Native.Nat.{ℕ, zero, suc, pred, ◌+◌, ◌*◌, ◌-◌, ◌/◌, ◌%◌, ◌^◌, ◌<◌, ◌≤◌}
use native.Mathlib.Nat.{mul_comm, le-mul_of_pos_right, mul_assoc, zero-add, add-zero, add-suc, suc-add}
use native.Mathlib.Omega.{arith}
use borrow.Author.Tests.{lt-ltb, le-ltb, le-leb}
use lib.Dec.{ltb, leb}
use lib.Arith.{digits_div}
use lib.Pow.{pow-add}
use lib.ListN.{length, take, drop, replicate, length-append, length-replicate}
use lib.Seq.{drop_at}
use Rattle.dshot_reply_spec.proofs.Cases.{lt-or-ge}
use Rattle.dshot_reply_spec.specs.Answer.{Answer, given, pick, refused}
use Rattle.dshot_reply_spec.specs.Refusals.{no_reply}
use Rattle.dshot_reply_spec.specs.Render.{Lasts, RenderedRuns, Renders, closed_low, open_end, open_bits, run}
use Rattle.dshot_reply_spec.specs.Runs.{assemble, finished, first_low, from_levels, run_bits, runs_of, runs_word, sum}

-- ---- runs of samples

replicate-pos : (l : Bool) (n : ℕ) → 0 < n → replicate n l ≡ l ∷ replicate (pred n) l
replicate-pos l zero h = absurd (omega arith)
replicate-pos l (suc n) h = refl

-- a run of samples counts for the bits that it takes up, and has a sample
lasts-bits : (s k n : ℕ) → 0 < s → Lasts s k n → run_bits s n ≡ k
lasts-bits s k n p h =
    let e : n + (s - 1) / 2 ≡ k * s + (n + (s - 1) / 2 - s * k) = omega (arith, mul_comm s k) in
    let d : (n + (s - 1) / 2) / s ≡ k = ap (λ (x : ℕ). x / s) e ∙ digits_div k (omega arith) in
    omega arith

lasts-some : (s k n : ℕ) → 0 < s → Lasts s k n → 0 < n
lasts-some s k n p h = omega (arith, le-mul_of_pos_right {m = k} s h.0)

-- what is read starts at the level of its first run
starts : (s : ℕ) → 0 < s → {l : Bool} {ks : List ℕ} {ls : List Bool} → RenderedRuns s l ks ls → (t : List Bool) × (ls ≡ l ∷ t)
starts s p (run l k n ks ls h r) = (replicate (pred n) l ++ ls, ap (λ (x : List Bool). x ++ ls) (replicate-pos l n (lasts-some s k n p h)))
starts s p (open_end l k n h some) = (replicate (pred n) l, replicate-pos l n some)
starts s p (closed_low k n m h some) =
    (replicate (pred n) false ++ replicate m true, ap (λ (x : List Bool). x ++ replicate m true) (replicate-pos false n (lasts-some s k n p h)))

same-level : (l : Bool) (n : ℕ) (ls : List Bool) → finished l n (l ∷ ls) ≡ finished l (suc n) ls
same-level true n ls = refl
same-level false n ls = refl

finished-run : (l : Bool) (n m : ℕ) (ls : List Bool) → finished l n (replicate m l ++ ls) ≡ finished l (n + m) ls
finished-run l n zero ls = rw add-zero
finished-run l n (suc m) ls = same-level l n (replicate m l ++ ls) ∙ finished-run l (suc n) m ls ∙ ap (λ (x : ℕ). finished l x ls) (suc-add n m ∙ sym (add-suc n m))

finished-edge : (l : Bool) (n : ℕ) (t : List Bool) → finished l n (not l ∷ t) ≡ n ∷ finished (not l) 0 (not l ∷ t)
finished-edge true n t = refl
finished-edge false n t = refl

-- a run that an edge closes
finished-closed : (l : Bool) (n : ℕ) (ls t : List Bool) → ls ≡ not l ∷ t → finished l 0 (replicate n l ++ ls) ≡ n ∷ finished (not l) 0 ls
finished-closed l n ls t e = finished-run l 0 n ls ∙ rw (e, zero-add) (finished-edge l n t)

finished_open : (l : Bool) (n : ℕ) → finished l 0 (replicate n l) ≡ []
finished_open l n = ap (finished l 0) (sym (append-nil (replicate n l))) ∙ finished-run l 0 n []

-- ---- the bits of the finished runs are those of the word, all of them or all but the last

-- o bits are those of a last run that is not finished
abbrev Got : List ℕ → List ℕ → ℕ → Type 0
Got ks got o = ((o ≡ 0) × (got ≡ ks)) ⊎ ((0 < o) × (got ++ (o ∷ []) ≡ ks))

got-more : (k : ℕ) {ks got : List ℕ} {o : ℕ} → Got ks got o → Got (k ∷ ks) (k ∷ got) o
got-more k (inl q) = inl (q.0, ap (λ (x : List ℕ). k ∷ x) q.1)
got-more k (inr q) = inr (q.0, ap (λ (x : List ℕ). k ∷ x) q.1)

runs-got : (s : ℕ) → 0 < s → {l : Bool} {ks : List ℕ} {ls : List Bool} (r : RenderedRuns s l ks ls) → Got ks (map (run_bits s) (finished l 0 ls)) (open_bits r)
runs-got s p (run l k n ks ls h r) = go (starts s p r) (runs-got s p r)
  where
    go : (t : List Bool) × (ls ≡ not l ∷ t) → Got ks (map (run_bits s) (finished (not l) 0 ls)) (open_bits r) → Got (k ∷ ks) (map (run_bits s) (finished l 0 (replicate n l ++ ls))) (open_bits r)
    go t g = rw (finished-closed l n ls t.0 t.1, lasts-bits s k n p h) (got-more k g)
runs-got s p (open_end l k n h some) = inr (h, rw (finished_open l n))
runs-got s p (closed_low k n m h some) =
    inl (refl, rw (finished-closed false n (replicate m true) (replicate (pred m) true) (replicate-pos true m some), finished_open true m, lasts-bits s k n p h))

-- ---- what those bits are assembled to

pub sum-snoc : (ks : List ℕ) (k : ℕ) → sum (ks ++ (k ∷ [])) ≡ sum ks + k
sum-snoc [] k = omega arith
sum-snoc (x ∷ ks) k = omega (arith, sum-snoc ks k)

word-snoc : (ks : List ℕ) (w k : ℕ) → runs_word w (ks ++ (k ∷ [])) ≡ runs_word w ks * 2 ^ k + 2 ^ (k - 1)
word-snoc [] w k = refl
word-snoc (x ∷ ks) w k = word-snoc ks (w * 2 ^ x + 2 ^ (x - 1)) k

assemble-whole : (ks : List ℕ) → sum ks ≡ 21 → assemble ks ≡ given (runs_word 0 ks)
unfolding assemble
assemble-whole ks e = rw e

assemble-rest : (ks : List ℕ) (k : ℕ) → sum ks + k ≡ 21 → 0 < k → k < 4 → assemble ks ≡ given (runs_word 0 (ks ++ (k ∷ [])))
unfolding assemble
assemble-rest ks k e p l =
    let q : 21 - sum ks ≡ k = omega arith in
    rw (le-ltb 21 (sum ks) (omega arith), le-ltb (sum ks) 18 (omega arith), lt-ltb (sum ks) 21 (omega arith), q)

assemble-none : (ks : List ℕ) (k : ℕ) → sum ks + k ≡ 21 → 3 < k → assemble ks ≡ refused no_reply
unfolding assemble
assemble-none ks k e l = rw (le-ltb 21 (sum ks) (omega arith), lt-ltb (sum ks) 18 (omega arith))

-- the word is read, or there is no reply and the word ends in a run of more than three bits
abbrev pub Read : Answer ℕ → ℕ → Type 0
Read t w = (t ≡ given w) ⊎ ((t ≡ (refused no_reply)) × (w % 8 ≡ 0))

low_zeros : (x k : ℕ) → 3 < k → (x * 2 ^ k + 2 ^ (k - 1)) % 8 ≡ 0
low_zeros x k h =
    let j = k - 4 in
    let a : 2 ^ k ≡ 2 ^ j * 16 = ap (λ (n : ℕ). 2 ^ n) (omega arith) ∙ pow-add 2 j 4 in
    let b : 2 ^ (k - 1) ≡ 2 ^ j * 8 = ap (λ (n : ℕ). 2 ^ n) (omega arith) ∙ pow-add 2 j 3 in
    rw (a, b, ← mul_assoc x (2 ^ j) 16) (omega arith)

-- the word is given, unless the run that is not finished has more than three bits
got-exact : (ks got : List ℕ) (o w : ℕ) → sum ks ≡ 21 → runs_word 0 ks ≡ w → Got ks got o → assemble got ≡ pick (ltb 3 o) (refused no_reply) (given w)
got-exact ks got o w s e (inl q) = rw (q.0, q.1) (assemble-whole ks s ∙ ap given e)
got-exact ks got o w s e (inr q) = go (lt-or-ge 3 o)
  where
    all : sum got + o ≡ 21
    all = sym (sum-snoc got o) ∙ ap sum q.1 ∙ s

    go : (3 < o) ⊎ (o ≤ 3) → assemble got ≡ pick (ltb 3 o) (refused no_reply) (given w)
    go (inl l) = rw (lt-ltb 3 o l) (assemble-none got o all l)
    go (inr l) = rw (le-ltb 3 o l) (assemble-rest got o all q.0 (omega arith) ∙ ap given (ap (runs_word 0) q.1 ∙ e))

-- and then the word ends in three zeros
got-zeros : (ks got : List ℕ) (o w : ℕ) → runs_word 0 ks ≡ w → 3 < o → Got ks got o → w % 8 ≡ 0
got-zeros ks got o w e l (inl q) = absurd (omega arith)
got-zeros ks got o w e l (inr q) =
    ap (λ (n : ℕ). n % 8) (sym (sym (word-snoc got 0 o) ∙ ap (runs_word 0) q.1 ∙ e)) ∙ low_zeros (runs_word 0 got) o l

-- ---- the start

first-low : (n : ℕ) (t : List Bool) → first_low (replicate n true ++ (false ∷ t)) ≡ n
first-low zero t = refl
first-low (suc n) t = ap suc (first-low n t)

-- A capture that renders w is read as w. If it ends in a run of more than three bits that does not close, it is read as no reply.
pub rendered-exact : (s : ℕ) → 0 < s → (ls : List Bool) (w : ℕ) (r : Renders s ls w) → from_levels s ls ≡ pick (ltb 3 (open_bits r.rendered)) (refused no_reply) (given w)
unfolding from_levels
rendered-exact s p ls w r =
    rw (r.split, start, back, long)
    (got-exact r.runs (runs_of s (take (23 * s) r.after)) (open_bits r.rendered) w r.bits r.word (runs-got s p r.rendered))
  where
    low : (m : ℕ) (after t : List Bool) (n : ℕ) → take m after ≡ false ∷ t → first_low (replicate n true ++ after) ≡ n
    low zero after t n e = absurd (let z : ◌≡◌ {A = ℕ} 0 1 = cc in omega arith)
    low (suc m) [] t n e = absurd (let z : ◌≡◌ {A = ℕ} 0 1 = cc in omega arith)
    low (suc m) (true ∷ after) t n e = absurd (let z : ◌≡◌ {A = ℕ} 0 1 = cc in omega arith)
    low (suc m) (false ∷ after) t n e = first-low n after

    start : first_low (replicate r.lead true ++ r.after) ≡ r.lead
    start = low (23 * s) r.after (starts s p r.rendered).0 r.lead (starts s p r.rendered).1

    back : drop r.lead (replicate r.lead true ++ r.after) ≡ r.after
    back = drop_at (replicate r.lead true) r.after r.lead (length-replicate r.lead true)

    long : leb (19 * s) (length (replicate r.lead true ++ r.after) - r.lead) ≡ true
    long = le-leb (19 * s) (length (replicate r.lead true ++ r.after) - r.lead) (omega (arith, r.room, length-append (replicate r.lead true) r.after, length-replicate r.lead true))

-- A capture that renders w is read as w. If w ends in too long a run, it may be read as no reply.
pub rendered-read : (s : ℕ) → 0 < s → (ls : List Bool) (w : ℕ) → Renders s ls w → Read (from_levels s ls) w
rendered-read s p ls w r = go (lt-or-ge 3 o)
  where
    o : ℕ
    o = open_bits r.rendered

    go : (3 < o) ⊎ (o ≤ 3) → Read (from_levels s ls) w
    go (inl l) = inr (rw (lt-ltb 3 o l) at (rendered-exact s p ls w r), got-zeros r.runs (runs_of s (take (23 * s) r.after)) o w r.word l (runs-got s p r.rendered))
    go (inr l) = inl (rw (le-ltb 3 o l) at (rendered-exact s p ls w r))
