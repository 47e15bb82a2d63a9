-- What the cycles of a bank rest on.
-- Assumes nothing.
use Rattle.std.proofs.Common.{◌≡◌, ℕ, zero, suc, ◌+◌, ◌*◌, ◌/◌, ◌%◌, ◌<◌, ◌≤◌, Bool, true, false, List, [], ◌∷◌, length, get_or, take, drop, drop-cons, drop-drop, ap, ◌∙◌, add-one, arith}
use Rattle.std.specs.Simd.{first_chunks}
use Rattle.dshot_spec.specs.Tabulate.{part}
use Rattle.dshot_bank_spec.specs.Calls.{on_dma_interrupt_call}
use Rattle.dshot_bank.specs.declared.LaneReply.{LaneReply}
use Rattle.dshot_bank.specs.States.{lane_reply_of, replies_of}
use Rattle.dshot_bank_bench.specs.Cycles.{Run, after, interrupts, throttles_at, cycle, cycles, no_lane}

-- one interrupt more, one cycle more
pub interrupts_more : (i : ℕ) (r : Run) → interrupts (i + 1) r ≡ after (interrupts i r) (on_dma_interrupt_call (i % 4) true false true true)
unfolding interrupts
interrupts_more i r = rw add-one

pub cycles_more : (present : Bool) (mask count : ℕ) (throttles captures : List ℕ) (r : Run) (n : ℕ)
    → cycles present mask count throttles captures r (n + 1)
    ≡ cycle (throttles_at throttles n) present mask (part 640 n captures) count n (cycles present mask count throttles captures r n)
unfolding cycles
cycles_more present mask count throttles captures r n = rw add-one

-- a lane's record among those of all lanes
pub reply_at : (l : List LaneReply) (i : ℕ) (x : LaneReply) → get_or l i x ≡ x → i < length l → get_or (replies_of l) i no_lane ≡ lane_reply_of x
reply_at [] i x e h = absurd (omega arith)
reply_at (y ∷ l) zero x e h = ap lane_reply_of e
reply_at (y ∷ l) (suc i) x e h = reply_at l i x e (omega arith)

-- the chunk at a place
pub chunk_at : {A : Type 0} (k n i : ℕ) (xs : List A) → i < n → get_or (first_chunks k n xs) i [] ≡ part k i xs
chunk_at k zero i xs h = absurd (omega arith)
chunk_at k (suc n) zero xs h = λ j. take k (drop (start j) xs)
  where
    start : 0 ≡ k * 0
    start = omega arith
chunk_at k (suc n) (suc i) xs h = chunk_at k n i (drop k xs) (omega arith) ∙ ap (take k) (drop-drop (k * i) k xs ∙ (λ j. drop (far j) xs))
  where
    far : k + k * i ≡ k * suc i
    far = omega arith

-- four throttles are those of their cycle
pub four_at : (xs : List ℕ) (i : ℕ) → i < length xs / 4 → part 4 i xs ≡ throttles_at xs i
four_at xs i h =
    let a = 4 * i in
    let long : a + 4 ≤ length xs = omega arith in
    let one : suc a ≡ a + 1 = omega arith in
    let two : suc (suc a) ≡ a + 2 = omega arith in
    let three : suc (suc (suc a)) ≡ a + 3 = omega arith in
    ap (take 4)
    (drop-cons xs a 0 (omega arith)
    ∙ ap (λ l. get_or xs a 0 ∷ l) (drop-cons xs (suc a) 0 (omega arith))
    ∙ ap (λ l. get_or xs a 0 ∷ get_or xs (suc a) 0 ∷ l) (drop-cons xs (suc (suc a)) 0 (omega arith))
    ∙ ap (λ l. get_or xs a 0 ∷ get_or xs (suc a) 0 ∷ get_or xs (suc (suc a)) 0 ∷ l) (drop-cons xs (suc (suc (suc a))) 0 (omega arith)))
    ∙ (λ j. get_or xs a 0 ∷ get_or xs (one j) 0 ∷ get_or xs (two j) 0 ∷ get_or xs (three j) 0 ∷ [])
