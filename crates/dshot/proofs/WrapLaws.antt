-- What a wrapping subtraction gives, for every width.
-- Assumes nothing.
use Rattle.std.proofs.Common.{◌≡◌, ℕ, ◌+◌, ◌-◌, ◌*◌, ◌%◌, ◌<◌, ◌≤◌, sym, ap, ◌∙◌, ⊎_elim, mod-eq_of_lt, arith}
use lib.Arith.{digits_mod}
use Rattle.dshot_reply_spec.proofs.Cases.{lt-or-ge}

-- numbers below m: what b must be added to, to give a
pub wrapped : (m a b r : ℕ) → b < m → r < m → (r + b) % m ≡ a → r ≡ (a + (m - b)) % m
wrapped m a b r hb hr e = ⊎_elim below above (lt-or-ge (r + b) m)
  where
    below : r + b < m → r ≡ (a + (m - b)) % m
    below h =
        let f : a ≡ r + b = sym e ∙ mod-eq_of_lt h in
        let g : a + (m - b) ≡ 1 * m + r = omega arith in
        sym (ap (λ (n : ℕ). n % m) g ∙ digits_mod 1 hr)

    above : m ≤ r + b → r ≡ (a + (m - b)) % m
    above h =
        let d : r + b ≡ 1 * m + (r + b - m) = omega arith in
        let f : a ≡ r + b - m = sym e ∙ ap (λ (n : ℕ). n % m) d ∙ digits_mod 1 (omega arith) in
        let g : a + (m - b) ≡ r = omega arith in
        sym (ap (λ (n : ℕ). n % m) g ∙ mod-eq_of_lt hr)
