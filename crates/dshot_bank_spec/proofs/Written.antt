-- What encoding every lane leaves in the two lent buffers: each lane's slots in its part of its spare. For every number of lanes.
-- Assumes nothing.
use mathlib.Core.Path.{◌≡◌, ◌∙◌, refl, sym, ap}
use Prim.Native.Nat.{ℕ, zero, suc, ◌+◌, ◌*◌, ◌<◌, ◌≤◌}
use mathlib.Core.List.{List, ◌++◌}
use mathlib.Core.Bool.{Bool, true, false}
use native.Mathlib.Omega.{arith}
use native.Mathlib.Decide.{dec_lt}
use lib.ListN.{length, take, drop, length-append, length-drop, take-append-drop}
use lib.Seq.{length-take-le, take_at, drop_at}
use Rattle.dshot_reply_spec.specs.Answer.{pick}
use Rattle.dshot_spec.specs.Tabulate.{part}
use Rattle.dshot_bank_spec.specs.Lanes.{each}
use Rattle.dshot_bank_spec.specs.State.{Buffers}
use Rattle.dshot_bank_spec.specs.FrameSet.{put_slots, write_spare}
use Rattle.dshot_bank_spec.proofs.LaneLaws.{part-before}

-- a lane's 16 slots of a buffer
abbrev pub lane_slots : ℕ → List ℕ → List ℕ
lane_slots lane l = part 16 lane l

-- the spare of a lane, by its mark
abbrev pub spare : Bool → Buffers → List ℕ
spare in_second b = pick in_second b.first b.second

-- ---- one lane's slots put into a buffer

module _ (lane : ℕ) (slots l : List ℕ) (size : length slots ≡ 16) (room : 16 * lane + 16 ≤ length l) where
  front : length (take (16 * lane) l) ≡ 16 * lane
  front = length-take-le (16 * lane) l (omega arith)

  put-length : length (put_slots lane slots l) ≡ length l
  put-length = simp (length-append, length-drop) (omega (arith, front))

  put-here : lane_slots lane (put_slots lane slots l) ≡ slots
  put-here =
      ap (λ (r : List ℕ). take 16 r) (drop_at (take (16 * lane) l) (slots ++ drop 16 (drop (16 * lane) l)) (16 * lane) front)
      ∙ take_at slots (drop 16 (drop (16 * lane) l)) 16 size

  -- an earlier lane keeps its slots
  put-before : (i : ℕ) → i < lane → lane_slots i (put_slots lane slots l) ≡ lane_slots i l
  put-before i h =
      let p = take (16 * lane) l in
      let fits : 16 * i + 16 ≤ length p = omega (arith, front) in
      part-before (16 * i) 16 p (slots ++ drop 16 (drop (16 * lane) l)) fits
      ∙ sym (part-before (16 * i) 16 p (drop (16 * lane) l) fits)
      ∙ ap (lane_slots i) (take-append-drop (16 * lane) l)

-- ---- every lane's slots, into its spare

-- either buffer is the one that was written, or as it was
spare-either : (P : List ℕ → Type 0) (m x : Bool) (lane : ℕ) (slots : List ℕ) (b : Buffers) → P (put_slots lane slots (spare x b)) → P (spare x b)
    → P (spare x (write_spare m lane slots b))
spare-either P true true lane slots b h k = h
spare-either P true false lane slots b h k = k
spare-either P false true lane slots b h k = k
spare-either P false false lane slots b h k = h

spare-same : (m : Bool) (lane : ℕ) (slots : List ℕ) (b : Buffers) → spare m (write_spare m lane slots b) ≡ put_slots lane slots (spare m b)
spare-same true lane slots b = refl
spare-same false lane slots b = refl

-- mark: which buffer is spare; slots: what is to be written there. The lanes before k are written
pub record Written (n : ℕ) (mark : ℕ → Bool) (slots : ℕ → List ℕ) (k : ℕ) (b : Buffers) : Type 0 where
  pub long : (x : Bool) → length (spare x b) ≡ 16 * n
  pub holds : (i : ℕ) → i < k → lane_slots i (spare (mark i) b) ≡ slots i

module _ (n : ℕ) (mark : ℕ → Bool) (slots : ℕ → List ℕ) (size : (i : ℕ) → length (slots i) ≡ 16) where
  written-more : (k : ℕ) (b : Buffers) → Written n mark slots k b → k < n → Written n mark slots (suc k) (write_spare (mark k) k (slots k) b)
  written-more k b w l = record {
    long = λ x. spare-either (λ (r : List ℕ). length r ≡ 16 * n) (mark k) x k (slots k) b
        (put-length k (slots k) (spare x b) (size k) (room x) ∙ w.long x) (w.long x);
    holds = λ i h. at i h (dec_lt i k);
  }
    where
      room : (x : Bool) → 16 * k + 16 ≤ length (spare x b)
      room x = omega (arith, w.long x)

      at : (i : ℕ) → i < suc k → Dec (i < k) → lane_slots i (spare (mark i) (write_spare (mark k) k (slots k) b)) ≡ slots i
      at i h (yes p) =
          spare-either (λ (r : List ℕ). lane_slots i r ≡ slots i) (mark k) (mark i) k (slots k) b
          (put-before k (slots k) (spare (mark i) b) (size k) (room (mark i)) i p ∙ w.holds i p) (w.holds i p)
      at i h (no q) =
          let e : i ≡ k = omega arith in
          rw e (ap (lane_slots k) (spare-same (mark k) k (slots k) b) ∙ put-here k (slots k) (spare (mark k) b) (size k) (room (mark k)))

  pub written : (b : Buffers) → ((x : Bool) → length (spare x b) ≡ 16 * n) → (k : ℕ) → k ≤ n
      → Written n mark slots k (each k (λ i c. write_spare (mark i) i (slots i) c) b)
  unfolding each
  written b h zero l = record { long = h; holds = λ i m. absurd (omega arith) }
  written b h (suc k) l = written-more k (each k (λ i c. write_spare (mark i) i (slots i) c) b) (written b h k (omega arith)) l
