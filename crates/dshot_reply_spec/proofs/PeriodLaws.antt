-- Laws of the scaling of a period.
-- Assumes nothing.
use mathlib.Core.Path.{◌≡◌, refl, ap, subst, ◌∙◌}
use mathlib.Core.Logic.{⊎_elim}
use Prim.Native.Nat.{ℕ, zero, suc, ◌+◌, ◌*◌, ◌-◌, ◌/◌, ◌^◌, ◌≤◌, ◌<◌}
use native.Mathlib.Omega.{arith}
use lib.Pow.{pow-add}
use borrow.Author.Tests.{le-leb, lt-leb}
use Rattle.dshot_reply_spec.proofs.Cases.{lt-or-ge}
use Rattle.dshot_reply_spec.specs.Period.{scaled}

-- more than 511 is left: the exponent can grow
pub grows : (e l : ℕ) → e ≤ 7 → l < 2 ^ (16 - e) → 511 < l → e + 1 ≤ 7
grows e l h lt more =
    ⊎_elim (λ less. omega arith)
    (λ ge. let q : e ≡ 7 = omega arith in let b : l < 512 = subst (λ (n : ℕ). l < 2 ^ (16 - n)) q lt in absurd (omega arith))
    (lt-or-ge e 7)

pub halved : (e l : ℕ) → e + 1 ≤ 7 → l < 2 ^ (16 - e) → l / 2 < 2 ^ (16 - (e + 1))
halved e l h lt =
    let q : 16 - e ≡ 16 - (e + 1) + 1 = omega arith in
    omega (arith, ap (λ (n : ℕ). 2 ^ n) q ∙ pow-add 2 (16 - (e + 1)) 1)

pub scaled-more : (e l : ℕ) → e + 1 ≤ 7 → 511 < l → scaled (7 - e) e l ≡ scaled (7 - (e + 1)) (e + 1) (l / 2)
unfolding scaled
scaled-more e l h more =
    let q : 7 - e ≡ suc (7 - (e + 1)) = omega arith in
    rw (q, lt-leb l 511 more)

pub scaled-done : (k e l : ℕ) → l ≤ 511 → scaled k e l ≡ e * 512 + l
unfolding scaled
scaled-done zero e l h = refl
scaled-done (suc k) e l h = rw (le-leb l 511 h)
