-- Finished runs and the word that they make, one run at a time.
-- Assumes nothing.
use mathlib.Core.Path.{◌≡◌, sym, refl, ap, ◌∙◌}
use mathlib.Core.Bool.{Bool, true, false, not}
use mathlib.Core.List.{List, [], ◌∷◌, ◌++◌, map}
use Prim.Native.Nat.{ℕ, suc, ◌+◌, ◌*◌, ◌-◌, ◌^◌, ◌<◌, ◌≤◌}
use native.Mathlib.Nat.{zero-add, add-zero, add_assoc}
use native.Mathlib.Omega.{arith}
use borrow.Author.Tests.{lt-ltb, le-ltb}
use lib.Dec.{ltb}
use lib.ListN.{length, drop, length-map}
use Rattle.dshot_reply_spec.specs.Answer.{Answer, given, pick, refused}
use Rattle.dshot_reply_spec.specs.Refusals.{no_reply, overlong}
use Rattle.dshot_reply_spec.specs.Runs.{assemble, finished, high, levels, run_bits, runs_of, runs_word, sum}
use Rattle.dshot_reply.proofs.Levels.{map-drop}
use Rattle.dshot_reply.specs.Steps.{closed, same_for}

-- ---- the first of the finished runs

-- if all levels are the same, no run is finished
run-open : (l : Bool) (n : ℕ) (ls : List Bool) → same_for l ls ≡ length ls → finished l n ls ≡ []
run-open l n [] e = refl
run-open true n (true ∷ ls) e = run-open true (suc n) ls (omega arith)
run-open false n (false ∷ ls) e = run-open false (suc n) ls (omega arith)
run-open true n (false ∷ ls) e = absurd (omega arith)
run-open false n (true ∷ ls) e = absurd (omega arith)

-- the first run ends where the level does, and the next starts there
run-closed : (l : Bool) (n : ℕ) (ls : List Bool) → same_for l ls < length ls
    → finished l n ls ≡ (n + same_for l ls) ∷ finished (not l) 0 (drop (same_for l ls) ls)
run-closed l n [] h = absurd (omega arith)
run-closed true n (true ∷ ls) h =
    let e : suc n + same_for true ls ≡ n + suc (same_for true ls) = omega arith in
    run-closed true (suc n) ls (omega arith) ∙ ap (λ (k : ℕ). k ∷ finished false 0 (drop (same_for true ls) ls)) e
run-closed false n (false ∷ ls) h =
    let e : suc n + same_for false ls ≡ n + suc (same_for false ls) = omega arith in
    run-closed false (suc n) ls (omega arith) ∙ ap (λ (k : ℕ). k ∷ finished true 0 (drop (same_for false ls) ls)) e
run-closed true n (false ∷ ls) h = ap (λ (k : ℕ). k ∷ finished false 1 ls) (sym (add-zero n))
run-closed false n (true ∷ ls) h = ap (λ (k : ℕ). k ∷ finished true 1 ls) (sym (add-zero n))

-- ---- the word that runs make

complete_from : ℕ → List ℕ → List ℕ
complete_from bits ks = pick (ltb (bits + sum ks) 21) (ks ++ ((21 - (bits + sum ks)) ∷ [])) ks

-- `assemble`, if bits have been read already and have made w
pub assemble_from : ℕ → ℕ → List ℕ → Answer ℕ
assemble_from bits w ks =
    pick (ltb 21 (bits + sum ks)) (refused overlong) (pick (ltb (bits + sum ks) 18) (refused no_reply) (given (runs_word w (complete_from bits ks))))

assemble-start : (ks : List ℕ) → assemble_from 0 0 ks ≡ assemble ks
unfolding assemble_from assemble complete_from
assemble-start ks = rw zero-add

moved_in : (b : Bool) (w k : ℕ) (ks r : List ℕ) → runs_word w (pick b ((k ∷ ks) ++ r) (k ∷ ks)) ≡ runs_word (w * 2 ^ k + 2 ^ (k - 1)) (pick b (ks ++ r) ks)
moved_in true w k ks r = refl
moved_in false w k ks r = refl

assemble-run : (bits w k : ℕ) (ks : List ℕ) → assemble_from bits w (k ∷ ks) ≡ assemble_from (bits + k) (w * 2 ^ k + 2 ^ (k - 1)) ks
unfolding assemble_from complete_from
assemble-run bits w k ks =
    let t = bits + k + sum ks in
    rw (← add_assoc bits k (sum ks))
    (ap (λ (x : ℕ). pick (ltb 21 t) (refused overlong) (pick (ltb t 18) (refused no_reply) (given x))) (moved_in (ltb t 21) w k ks ((21 - t) ∷ [])))

assemble-over : (bits w k : ℕ) (ks : List ℕ) → 21 < bits + k → assemble_from bits w (k ∷ ks) ≡ refused overlong
unfolding assemble_from
assemble-over bits w k ks h = rw (lt-ltb 21 (bits + (k + sum ks)) (omega arith))

last-run : (b : Bool) (w r : ℕ) → given (runs_word w (pick b (r ∷ []) [])) ≡ pick b (given (w * 2 ^ r + 2 ^ (r - 1))) (given w)
last-run true w r = refl
last-run false w r = refl

assemble-end : (bits w : ℕ) → bits ≤ 21 → assemble_from bits w [] ≡ closed bits w
unfolding assemble_from complete_from closed
assemble-end bits w h =
    simp (add-zero, le-ltb 21 bits h)
    (ap (λ (x : Answer ℕ). pick (ltb bits 18) (refused no_reply) x) (last-run (ltb bits 21) w (21 - bits)))

-- ---- what reading the samples s from level l on gives, if the finished runs have made the bits of w

abbrev pub rest : ℕ → ℕ → List ℕ → Bool → ℕ → ℕ → Answer ℕ
rest t m s l bits w = assemble_from bits w (map (run_bits t) (finished l 0 (levels m s)))

pub rest-start : (t m : ℕ) (s : List ℕ) → assemble (runs_of t (levels m s)) ≡ rest t m s false 0 0
rest-start t m s = sym (assemble-start (runs_of t (levels m s)))

-- the samples begin with a run, which may end
module _ (t m : ℕ) (s : List ℕ) (l : Bool) (bits w : ℕ) where
  pub rest_end : same_for l (levels m s) ≡ length s → bits ≤ 21 → rest t m s l bits w ≡ closed bits w
  rest_end q h =
      ap (λ (ns : List ℕ). assemble_from bits w (map (run_bits t) ns)) (run-open l 0 (levels m s) (q ∙ sym (length-map s (high m))))
      ∙ assemble-end bits w h

  module _ (n : ℕ) (ends : n ≡ same_for l (levels m s)) (within : n < length s) where
    first_run : rest t m s l bits w ≡ assemble_from bits w (run_bits t n ∷ map (run_bits t) (finished (not l) 0 (levels m (drop n s))))
    first_run =
        let d : 0 + same_for l (levels m s) ≡ n = omega arith in
        ap (λ (ns : List ℕ). assemble_from bits w (map (run_bits t) ns)) (run-closed l 0 (levels m s) (omega (arith, ends, within, length-map s (high m))))
        ∙ ap (λ (k : ℕ). assemble_from bits w (run_bits t k ∷ map (run_bits t) (finished (not l) 0 (drop (same_for l (levels m s)) (levels m s))))) d
        ∙ ap (λ (k : ℕ). assemble_from bits w (run_bits t n ∷ map (run_bits t) (finished (not l) 0 (drop k (levels m s))))) (sym ends)
        ∙ ap (λ (ls : List Bool). assemble_from bits w (run_bits t n ∷ map (run_bits t) (finished (not l) 0 ls))) (sym (map-drop (high m) n s))

    pub rest-run : (k : ℕ) → k ≡ run_bits t n → rest t m s l bits w ≡ rest t m (drop n s) (not l) (bits + k) (w * 2 ^ k + 2 ^ (k - 1))
    rest-run k q = rw q (first_run ∙ assemble-run bits w (run_bits t n) _)

    pub rest_over : (k : ℕ) → k ≡ run_bits t n → 21 < bits + k → rest t m s l bits w ≡ refused overlong
    rest_over k q o = first_run ∙ assemble-over bits w (run_bits t n) _ (rw q at o)
