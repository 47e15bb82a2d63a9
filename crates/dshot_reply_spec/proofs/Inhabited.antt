-- The terms of demand 3 hold of all that document 01 names, and not only of a part of it. They hold of every capture whose runs last as they may.
-- They hold of every edge that can move, and of every damage to a symbol.
-- Assumes nothing.
use mathlib.Core.Path.{◌≡◌, sym, refl, ap, ◌∙◌}
use mathlib.Core.Logic.{◌⊎◌, inl, inr, ⊎_elim}
use mathlib.Core.Bool.{Bool, true, false, not}
use mathlib.Core.List.{List, [], ◌∷◌, ◌++◌, append-nil}
use Prim.Native.Nat.{ℕ, ◌+◌, ◌-◌, ◌*◌, ◌/◌, ◌%◌, ◌^◌, ◌≤◌, ◌<◌}
use native.Mathlib.Nat.{le-mul_of_pos_right, mod-lt, mul-div-le}
use native.Mathlib.Omega.{arith}
use lib.Arith.{digits_div, digits_mod}
use lib.Dec.{T, leb, leb→le, lit<, ltb, ltb→lt}
use lib.ListN.{length, take, replicate}
use lib.Pow.{pow_pos}
use Rattle.dshot_reply_spec.proofs.Cases.{lt-or-eq-or-gt}
use Rattle.dshot_reply_spec.proofs.Moves.{symbol-top}
use Rattle.dshot_reply_spec.proofs.Shift.{symbol-below}
use Rattle.dshot_reply_spec.proofs.Table.{both, both_left, both_right}
use Rattle.dshot_reply_spec.specs.Gcr.{reply_word, symbol_at, word_of}
use Rattle.dshot_reply_spec.specs.Move.{Moved, bit}
use Rattle.dshot_reply_spec.specs.Render.{Damaged, Lasts, RenderedRuns, Renders, closed_low, open_end, run}
use Rattle.dshot_reply_spec.specs.Runs.{runs_word, sum}

-- ---- captures

-- a run of k bits may last s * k samples, and up to (s - 1) / 2 fewer or more
pub may-last : (s k n : ℕ) → 0 < k → s * k - (s - 1) / 2 ≤ n → n ≤ s * k + (s - 1) / 2 → Lasts s k n
may-last s k n some least most = (omega arith, omega arith, omega arith)

-- runs of ns samples, whose levels take turns, the first at the level l
abbrev pub alternating : Bool → List ℕ → List Bool
alternating l [] = []
alternating l (n ∷ ns) = replicate n l ++ alternating (not l) ns

-- whether n samples may be a run of k bits
abbrev lasting : ℕ → ℕ → ℕ → Bool
lasting s k n = both (ltb 0 k) (both (leb (s * k - (s - 1) / 2) n) (leb n (s * k + (s - 1) / 2)))

-- Whether ns samples may be runs of ks bits, the first at the level l. The last run takes up all that is left. A low last run may instead last its
-- bits, and one run of high samples follows.
abbrev pub fits : ℕ → Bool → List ℕ → List ℕ → Bool
fits s l [] ns = false
fits s l (k ∷ []) [] = false
fits s l (k ∷ []) (n ∷ []) = both (ltb 0 k) (ltb 0 n)
fits s true (k ∷ []) (n ∷ m ∷ ns) = false
fits s false (k ∷ []) (n ∷ m ∷ []) = both (lasting s k n) (ltb 0 m)
fits s false (k ∷ []) (n ∷ m ∷ x ∷ ns) = false
fits s l (k ∷ j ∷ ks) [] = false
fits s l (k ∷ j ∷ ks) (n ∷ ns) = both (lasting s k n) (fits s (not l) (j ∷ ks) ns)

lasts : (s k n : ℕ) → T (lasting s k n) → Lasts s k n
lasts s k n t =
    let most = leb n (s * k + (s - 1) / 2) in
    let least = leb (s * k - (s - 1) / 2) n in
    let u = both_right (ltb 0 k) (both least most) t in
    let some = ltb→lt 0 k (both_left (ltb 0 k) (both least most) t) in
    may-last s k n some (leb→le (s * k - (s - 1) / 2) n (both_left least most u)) (leb→le n (s * k + (s - 1) / 2) (both_right least most u))

fitting : (s : ℕ) (l : Bool) (ks ns : List ℕ) → T (fits s l ks ns) → RenderedRuns s l ks (alternating l ns)
fitting s l [] ns t = absurd t
fitting s l (k ∷ []) [] t = absurd t
fitting s l (k ∷ []) (n ∷ []) t =
    let bits = ltb→lt 0 k (both_left (ltb 0 k) (ltb 0 n) t) in
    let read = ltb→lt 0 n (both_right (ltb 0 k) (ltb 0 n) t) in
    rw append-nil (open_end l k n (omega arith) (omega arith))
fitting s true (k ∷ []) (n ∷ m ∷ ns) t = absurd t
fitting s false (k ∷ []) (n ∷ m ∷ []) t =
    let after = ltb→lt 0 m (both_right (lasting s k n) (ltb 0 m) t) in
    rw append-nil (closed_low k n m (lasts s k n (both_left (lasting s k n) (ltb 0 m) t)) (omega arith))
fitting s false (k ∷ []) (n ∷ m ∷ x ∷ ns) t = absurd t
fitting s l (k ∷ j ∷ ks) [] t = absurd t
fitting s l (k ∷ j ∷ ks) (n ∷ ns) t =
    run l k n (j ∷ ks) (alternating (not l) ns) (lasts s k n (both_left (lasting s k n) (fits s (not l) (j ∷ ks) ns) t))
    (fitting s (not l) (j ∷ ks) ns (both_right (lasting s k n) (fits s (not l) (j ∷ ks) ns) t))

-- A capture renders a word if two things hold. It has samples for 19 bits from the start on. What is read, at most 23 bits of samples, may be the
-- runs of the word. The lead and what follows may be anything.
pub runs-render : (s lead : ℕ) (after : List Bool) (ks ns : List ℕ) → 19 * s ≤ length after → take (23 * s) after ≡ alternating false ns
    → sum ks ≡ 21 → T (fits s false ks ns) → Renders s (replicate lead true ++ after) (runs_word 0 ks)
runs-render s lead after ks ns room read bits t = record {
  lead = lead;
  after = after;
  runs = ks;
  split = refl;
  room = omega arith;
  bits = bits;
  word = refl;
  rendered = rw read (fitting s false ks ns t);
}

-- ---- moved edges

-- an edge of any word moves to the free bit before it or after it
pub every-move : (w i j : ℕ) → i < 20 → j < 20 → (j ≡ i + 1) ⊎ (i ≡ j + 1) → bit w i ≡ 1 → bit w j ≡ 0 → Moved w (w + 2 ^ j - 2 ^ i) i j
every-move w i j from to beside edge free =
    let there : 2 ^ i ≤ w = omega (arith, le-mul_of_pos_right {m = w / 2 ^ i} (2 ^ i) (omega arith), mul-div-le w (2 ^ i)) in
    record {
      from = omega arith;
      to = omega arith;
      beside = ⊎_elim (λ e. inl (omega arith)) (λ e. inr (omega arith)) beside;
      edge = edge;
      free = free;
      moved = omega arith;
    }

-- an edge to bit 19, the first after the start edge, and one from bit 0, the last, each one place earlier
pub edge-to-19-moves : Moved (reply_word 0x900) 0x18e736 18 19
unfolding reply_word word_of
edge-to-19-moves = every-move (reply_word 0x900) 18 19 (lit< tt) (lit< tt) (inl refl) refl refl

pub edge-from-0-moves : Moved (reply_word 0x200) 0x19672e 0 1
unfolding reply_word word_of
edge-from-0-moves = every-move (reply_word 0x200) 0 1 (lit< tt) (lit< tt) (inl refl) refl refl

-- an edge from bit 19 and one to bit 0, each one place later
pub edge-from-19-moves : Moved (reply_word 0x200) 0x15672d 19 18
unfolding reply_word word_of
edge-from-19-moves = every-move (reply_word 0x200) 19 18 (lit< tt) (lit< tt) (inr refl) refl refl

pub edge-to-0-moves : Moved (reply_word 0x900) 0x14e735 1 0
unfolding reply_word word_of
edge-to-0-moves = every-move (reply_word 0x900) 1 0 (lit< tt) (lit< tt) (inr refl) refl refl

-- ---- damage

-- a word with the five bits x at place p
abbrev pub with_symbol : ℕ → ℕ → ℕ → ℕ
with_symbol w p x = (w / 2 ^ (5 * p) / 32 * 32 + x) * 2 ^ (5 * p) + w % 2 ^ (5 * p)

-- any other five bits damage any of the four symbols of any word
pub every-damage : (w p x : ℕ) → p < 4 → x < 32 → (x ≡ symbol_at w p → ⊥) → Damaged w (with_symbol w p x) p
unfolding symbol_at
every-damage w p x h small other =
    let u = w / 2 ^ (5 * p) in
    let up : with_symbol w p x / 2 ^ (5 * p) ≡ u / 32 * 32 + x = digits_div (u / 32 * 32 + x) (mod-lt w (pow_pos (5 * p))) in
    let low : with_symbol w p x % 2 ^ (5 * p) ≡ w % 2 ^ (5 * p) = digits_mod (u / 32 * 32 + x) (mod-lt w (pow_pos (5 * p))) in
    let top : with_symbol w p x / 2 ^ (5 * p) / 32 ≡ u / 32 = ap (λ (n : ℕ). n / 32) up ∙ digits_div (u / 32) small in
    let here : symbol_at (with_symbol w p x) p ≡ x = ap (λ (n : ℕ). n % 32) up ∙ digits_mod (u / 32) small in
    record {
      place = omega arith;
      changed = λ e. other (sym here ∙ e);
      others = λ q n.
          ⊎_elim (λ lt. symbol-below w (with_symbol w p x) p q low lt)
          (λ r. ⊎_elim (λ e. absurd (n e)) (λ gt. symbol-top w (with_symbol w p x) p 1 q top (omega arith)) r) (lt-or-eq-or-gt q p);
    }

-- the word of value 0 with one bit of each symbol changed
pub symbol-0-damaged : Damaged (reply_word 0) 0x1ce72e 0
unfolding reply_word word_of symbol_at
symbol-0-damaged = every-damage (reply_word 0) 0 0x0e (lit< tt) (lit< tt) (λ e. omega arith)

pub symbol-1-damaged : Damaged (reply_word 0) 0x1ce70f 1
unfolding reply_word word_of symbol_at
symbol-1-damaged = every-damage (reply_word 0) 1 0x18 (lit< tt) (lit< tt) (λ e. omega arith)

pub symbol-2-damaged : Damaged (reply_word 0) 0x1ce32f 2
unfolding reply_word word_of symbol_at
symbol-2-damaged = every-damage (reply_word 0) 2 0x18 (lit< tt) (lit< tt) (λ e. omega arith)

pub symbol-3-damaged : Damaged (reply_word 0) 0x1c672f 3
unfolding reply_word word_of symbol_at
symbol-3-damaged = every-damage (reply_word 0) 3 0x18 (lit< tt) (lit< tt) (λ e. omega arith)
