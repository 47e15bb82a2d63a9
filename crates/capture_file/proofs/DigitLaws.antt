-- The digits of a number without the lowest one, and how many digits there are.
-- Assumes nothing.
use mathlib.Core.Path.{◌≡◌, refl, ap, ◌∙◌}
use mathlib.Core.Logic.{⊎_elim}
use mathlib.Core.List.{List, [], ◌∷◌, ◌++◌}
use Prim.Native.Nat.{ℕ, zero, suc, ◌+◌, ◌-◌, ◌/◌, ◌%◌, ◌^◌, ◌≤◌, ◌<◌, zero-le, suc-le-suc}
use native.Mathlib.Nat.{pow-suc}
use native.Mathlib.Numerals.{add-one}
use native.Mathlib.Omega.{arith}
use lib.ListN.{length, length-append}
use borrow.Author.Tests.{lt-ltb, le-ltb}
use Rattle.dshot_reply_spec.proofs.Cases.{lt-or-ge}
use Rattle.capture_file.specs.Line.{digit, hexadecimal, decimal_within, decimal}

pub hexadecimal-none : (n x : ℕ) → n ≡ 0 → hexadecimal n x ≡ []
unfolding hexadecimal
hexadecimal-none zero x h = refl
hexadecimal-none (suc n) x h = absurd (omega arith)

pub hexadecimal-more : (n x : ℕ) → 0 < n → hexadecimal n x ≡ hexadecimal (n - 1) (x / 16) ++ (digit (x % 16) ∷ [])
unfolding hexadecimal
hexadecimal-more zero x h = absurd (omega arith)
hexadecimal-more (suc n) x h = let e : suc n - 1 ≡ n = omega arith in rw e

-- a number below 10
pub decimal-one : (x : ℕ) → x < 10 → decimal x ≡ digit x ∷ []
unfolding decimal_within
decimal-one x h = rw (lt-ltb x 10 h)

-- If n digits are enough, one more changes nothing.
enough : (n x : ℕ) → x < 10 ^ suc n → decimal_within (suc n) x ≡ decimal_within (suc (suc n)) x
unfolding decimal_within
enough zero x h = rw (lt-ltb x 10 h)
enough (suc n) x h =
    ⊎_elim
    (λ l. rw (lt-ltb x 10 l))
    (λ g. rw (le-ltb x 10 g) (ap (λ (ds : List ℕ). ds ++ (digit (x % 10) ∷ [])) (enough n (x / 10) (omega (arith, pow-suc 10 (suc n))))))
    (lt-or-ge x 10)

-- a larger number of at most ten digits
pub decimal-more : (x : ℕ) → 10 ≤ x → x < 10 ^ 10 → decimal x ≡ decimal (x / 10) ++ (digit (x % 10) ∷ [])
unfolding decimal_within
decimal-more x h l = rw (le-ltb x 10 h) (ap (λ (ds : List ℕ). ds ++ (digit (x % 10) ∷ [])) (enough 8 (x / 10) (omega arith)))

-- how many digits there are
pub length-hexadecimal : (n x : ℕ) → length (hexadecimal n x) ≡ n
unfolding hexadecimal
length-hexadecimal zero x = refl
length-hexadecimal (suc n) x = length-append (hexadecimal n (x / 16)) _ ∙ ap (λ (k : ℕ). k + 1) (length-hexadecimal n (x / 16)) ∙ add-one n

pub length-decimal : (n x : ℕ) → length (decimal_within n x) ≤ n
unfolding decimal_within
length-decimal zero x = zero-le
length-decimal (suc n) x =
    ⊎_elim
    (λ l. rw (lt-ltb x 10 l) (suc-le-suc zero-le))
    (λ g. rw (le-ltb x 10 g, length-append, add-one) (suc-le-suc (length-decimal n (x / 10))))
    (lt-or-ge x 10)
