-- Two neighbouring bits of a word change places. The symbols from place q on are those of the word without its lowest 5q bits. Only the two symbols
-- from there on change.
-- Assumes nothing.
use mathlib.Core.Path.{◌≡◌, sym, subst, ap, ◌∙◌}
use Prim.Native.Nat.{ℕ, ◌+◌, ◌*◌, ◌-◌, ◌/◌, ◌%◌, ◌^◌, ◌<◌, ◌≤◌}
use native.Mathlib.Nat.{add-mul, mod-lt}
use native.Mathlib.Omega.{arith}
use lib.Arith.{digits_div, digits_mod}
use lib.Pow.{pow_pos, pow-add, shr-shr, field, mod-mod-pow, split}
use Rattle.dshot_reply_spec.specs.Gcr.{symbol_at}
use Rattle.dshot_reply_spec.specs.Move.{bit}

-- the symbol at place q + d is that at place d of what stands above the bits below 5q
pub symbol-above : (w q d : ℕ) → symbol_at w (q + d) ≡ symbol_at (w / 2 ^ (5 * q)) d
unfolding symbol_at
symbol-above w q d = ap (λ (n : ℕ). n % 32) (ap (λ (n : ℕ). w / 2 ^ n) (omega arith) ∙ sym (shr-shr w (5 * q) (5 * d)))

pub bit-above : (w k r : ℕ) → bit w (k + r) ≡ bit (w / 2 ^ k) r
bit-above w k r = ap (λ (n : ℕ). n % 2) (sym (shr-shr w k r))

-- the symbol at a place below q is that of the bits below 5q
symbol-of-low : (w q p : ℕ) → p < q → symbol_at w p ≡ symbol_at (w % 2 ^ (5 * q)) p
unfolding symbol_at
symbol-of-low w q p h =
    let j = 5 * q - (5 + 5 * p) in
    let e : j + (5 + 5 * p) ≡ 5 * q = omega arith in
    let m : w % 2 ^ (5 * q) % 2 ^ (5 + 5 * p) ≡ w % 2 ^ (5 + 5 * p) = subst (λ (n : ℕ). w % 2 ^ n % 2 ^ (5 + 5 * p) ≡ w % 2 ^ (5 + 5 * p)) e (mod-mod-pow w j (5 + 5 * p)) in
    sym (field w 5 (5 * p)) ∙ ap (λ (n : ℕ). n / 2 ^ (5 * p)) (sym m) ∙ field (w % 2 ^ (5 * q)) 5 (5 * p)

-- 2 ^ i at the bits from k on is taken away, and 2 ^ j put there
module _ (w w' k i j : ℕ) (moved : w' + 2 ^ (k + i) ≡ w + 2 ^ (k + j)) (there : 2 ^ i ≤ w / 2 ^ k) where
  whole : w' ≡ (w / 2 ^ k + 2 ^ j - 2 ^ i) * 2 ^ k + w % 2 ^ k
  whole =
      let u = w / 2 ^ k in
      let s : u + 2 ^ j - 2 ^ i + 2 ^ i ≡ u + 2 ^ j = omega arith in
      let t : (u + 2 ^ j - 2 ^ i) * 2 ^ k + 2 ^ i * 2 ^ k ≡ u * 2 ^ k + 2 ^ j * 2 ^ k =
      sym (add-mul (u + 2 ^ j - 2 ^ i) (2 ^ i) (2 ^ k)) ∙ ap (λ (n : ℕ). n * 2 ^ k) s ∙ add-mul u (2 ^ j) (2 ^ k) in
      let a : 2 ^ (k + i) ≡ 2 ^ i * 2 ^ k = ap (λ (n : ℕ). 2 ^ n) (omega arith) ∙ pow-add 2 i k in
      let b : 2 ^ (k + j) ≡ 2 ^ j * 2 ^ k = ap (λ (n : ℕ). 2 ^ n) (omega arith) ∙ pow-add 2 j k in
      omega (arith, split w k)

  pub above : w' / 2 ^ k ≡ w / 2 ^ k + 2 ^ j - 2 ^ i
  above = ap (λ (n : ℕ). n / 2 ^ k) whole ∙ digits_div (w / 2 ^ k + 2 ^ j - 2 ^ i) (mod-lt w (pow_pos k))

  pub under : w' % 2 ^ k ≡ w % 2 ^ k
  under = ap (λ (n : ℕ). n % 2 ^ k) whole ∙ digits_mod (w / 2 ^ k + 2 ^ j - 2 ^ i) (mod-lt w (pow_pos k))

pub symbol-below : (w w' q p : ℕ) → w' % 2 ^ (5 * q) ≡ w % 2 ^ (5 * q) → p < q → symbol_at w' p ≡ symbol_at w p
symbol-below w w' q p e h = symbol-of-low w' q p h ∙ ap (λ (n : ℕ). symbol_at n p) e ∙ sym (symbol-of-low w q p h)
