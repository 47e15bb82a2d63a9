-- A word that the reader reads has its start edge at bit 20, and no bit above it.
-- Assumes nothing.
use Prim.{Unit}
use mathlib.Core.Path.{◌≡◌, refl, sym, ap, ◌∙◌}
use mathlib.Core.Bool.{Bool, true, false}
use mathlib.Core.List.{List, [], ◌∷◌, ◌++◌, map}
use Prim.Native.Nat.{ℕ, ◌+◌, ◌*◌, ◌-◌, ◌/◌, ◌^◌, ◌≤◌, ◌<◌}
use native.Mathlib.Nat.{div-one, div_self}
use native.Mathlib.Omega.{arith}
use lib.Dec.{leb, ltb}
use lib.ListN.{length, take, drop}
use lib.Pow.{high, pow-lt, pow_pos, shr-shr}
use borrow.Author.Tests.{ltb-false, ltb-true}
use Rattle.dshot_reply_spec.proofs.Choice.{not-both, not_first, not-second}
use Rattle.dshot_reply_spec.proofs.Rendered.{sum-snoc}
use Rattle.dshot_reply_spec.specs.Answer.{given, pick}
use Rattle.dshot_reply_spec.specs.Runs.{assemble, complete, finished, first_low, from_levels, levels, run_bits, runs_of, runs_word, sum, transitions_of}

-- every run counts at least one bit
abbrev Counted : List ℕ → Type 0
Counted [] = Unit {0}
Counted (k ∷ ks) = (0 < k) × Counted ks

counted-bits : (s : ℕ) (ns : List ℕ) → Counted (map (run_bits s) ns)
counted-bits s [] = tt
counted-bits s (n ∷ ns) = (omega arith, counted-bits s ns)

counted-snoc : (ks : List ℕ) (k : ℕ) → Counted ks → 0 < k → Counted (ks ++ (k ∷ []))
counted-snoc [] k c h = (h, tt)
counted-snoc (x ∷ ks) k c h = (c.0, counted-snoc ks k c.1 h)

-- the runs that follow the bits w do not change them
bits-kept : (w : ℕ) (ks : List ℕ) → Counted ks → runs_word w ks / 2 ^ sum ks ≡ w
bits-kept w [] c = div-one w
bits-kept w (k ∷ ks) c =
    let next = w * 2 ^ k + 2 ^ (k - 1) in
    let e : k + sum ks ≡ sum ks + k = omega arith in
    ap (λ (n : ℕ). runs_word next ks / 2 ^ n) e ∙ sym (shr-shr (runs_word next ks) (sum ks) k)
    ∙ ap (λ (n : ℕ). n / 2 ^ k) (bits-kept next ks c.1)
    ∙ high w k (pow-lt (omega arith))

-- runs of 21 bits start with a 1
runs-start : (ks : List ℕ) → Counted ks → sum ks ≡ 21 → runs_word 0 ks / 2 ^ 20 ≡ 1
runs-start [] c e = absurd (omega arith)
runs-start (k ∷ ks) c e =
    let w = runs_word 0 (k ∷ ks) in
    let q : 20 ≡ sum ks + (k - 1) = omega arith in
    let r : 0 * 2 ^ k + 2 ^ (k - 1) ≡ 2 ^ (k - 1) = omega arith in
    ap (λ (n : ℕ). w / 2 ^ n) q ∙ sym (shr-shr w (sum ks) (k - 1))
    ∙ ap (λ (n : ℕ). n / 2 ^ (k - 1)) (bits-kept (0 * 2 ^ k + 2 ^ (k - 1)) ks c.1 ∙ r)
    ∙ div_self (pow_pos (k - 1))

-- with the missing bits as one last run there are 21
complete-start : (ks : List ℕ) → Counted ks → sum ks ≤ 21 → runs_word 0 (complete ks) / 2 ^ 20 ≡ 1
complete-start ks c h = go (ltb (sum ks) 21) refl
  where
    go : (t : Bool) → ltb (sum ks) 21 ≡ t → runs_word 0 (pick t (ks ++ ((21 - sum ks) ∷ [])) ks) / 2 ^ 20 ≡ 1
    go true e =
        let l = ltb-true (sum ks) 21 e in
        runs-start (ks ++ ((21 - sum ks) ∷ [])) (counted-snoc ks (21 - sum ks) c (omega arith)) (omega (arith, sum-snoc ks (21 - sum ks)))
    go false e = let l = ltb-false (sum ks) 21 e in runs-start ks c (omega arith)

assemble-start : (ks : List ℕ) (w : ℕ) → Counted ks → assemble ks ≡ given w → w / 2 ^ 20 ≡ 1
unfolding assemble
assemble-start ks w c e =
    let a = not_first (ltb 21 (sum ks)) e (λ f. not-both f refl) in
    let b = not_first (ltb (sum ks) 18) a.1 (λ f. not-both f refl) in
    let same = b.1 in
    let q : runs_word 0 (complete ks) ≡ w = cc in
    rw q at (complete-start ks c (ltb-false 21 (sum ks) a.0))

-- the start edge of a word that is read
pub transitions-start : (s : ℕ) (samples : List ℕ) (mask w : ℕ) → transitions_of s samples mask ≡ given w → w / 2 ^ 20 ≡ 1
unfolding transitions_of from_levels
transitions-start s samples mask w e =
    let ls = levels mask samples in
    let part = take (23 * s) (drop (first_low ls) ls) in
    let a = not-second (leb (19 * s) (length ls - first_low ls)) e (λ f. not-both f refl) in
    assemble-start (runs_of s part) w (counted-bits s (finished false 0 part)) a.1
