-- The digits of a line read back as the number that they were written for. A decimal number above 0 does not start with a 0.
-- Assumes nothing.
use mathlib.Core.Path.{◌≡◌, refl, ◌∙◌}
use mathlib.Core.Logic.{⊎_elim}
use mathlib.Core.List.{List, [], ◌∷◌, ◌++◌}
use Prim.Native.Nat.{ℕ, zero, suc, ◌+◌, ◌*◌, ◌/◌, ◌%◌, ◌^◌, ◌≤◌, ◌<◌}
use native.Mathlib.Nat.{pow-suc}
use native.Mathlib.Omega.{arith}
use lib.Dec.{eqb, eqb→eq, ltb, ltb→lt, lit<}
use lib.ListN.{length, get_or, length-append, get_or-append}
use borrow.Author.Tests.{lt-ltb, le-ltb}
use Rattle.dshot_reply_spec.proofs.Cases.{lt-or-ge}
use Rattle.dshot_reply_spec.proofs.Table.{at}
use Rattle.capture_file.specs.Digits.{digit_value, digits_value}
use Rattle.capture_file.specs.Line.{digit, hexadecimal, decimal_within, decimal}

digit-back : (d : ℕ) → d < 16 → digit_value (digit d) ≡ d
unfolding digit_value digit
digit-back d h = eqb→eq (digit_value (digit d)) d (at (λ n. eqb (digit_value (digit n)) n) 16 tt d h)

-- one digit more
value-more : (base v : ℕ) (bs : List ℕ) (b : ℕ) → digits_value base v (bs ++ (b ∷ [])) ≡ digits_value base v bs * base + digit_value b
value-more base v [] b = refl
value-more base v (x ∷ bs) b = value-more base (v * base + digit_value x) bs b

-- n hexadecimal digits hold a number below 16 ^ n
pub hexadecimal-back : (n x : ℕ) → x < 16 ^ n → digits_value 16 0 (hexadecimal n x) ≡ x
unfolding hexadecimal
hexadecimal-back zero x h = omega arith
hexadecimal-back (suc n) x h =
    let rest = hexadecimal-back n (x / 16) (omega (arith, pow-suc 16 n)) in
    let last = digit-back (x % 16) (omega arith) in
    value-more 16 0 (hexadecimal n (x / 16)) (digit (x % 16)) ∙ omega (arith, rest, last)

-- a number below 10 is one decimal digit, and a larger one is a digit more than its tenth part
one-back : (n x : ℕ) → x < 10 → digits_value 10 0 (decimal_within (suc n) x) ≡ x
unfolding decimal_within
one-back n x h = rw (lt-ltb x 10 h) (omega (arith, digit-back x (omega arith)))

more-back : (n x : ℕ) → 10 ≤ x → digits_value 10 0 (decimal_within n (x / 10)) ≡ x / 10 → digits_value 10 0 (decimal_within (suc n) x) ≡ x
unfolding decimal_within
more-back n x h rest =
    let last = digit-back (x % 10) (omega arith) in
    rw (le-ltb x 10 h) (value-more 10 0 (decimal_within n (x / 10)) (digit (x % 10)) ∙ omega (arith, rest, last))

within-back : (n x : ℕ) → x < 10 ^ suc n → digits_value 10 0 (decimal_within (suc n) x) ≡ x
within-back zero x h = one-back zero x h
within-back (suc n) x h =
    ⊎_elim (one-back (suc n) x) (λ g. more-back (suc n) x g (within-back n (x / 10) (omega (arith, pow-suc 10 (suc n))))) (lt-or-ge x 10)

-- ten decimal digits hold every number of 32 bits
pub decimal-back : (x : ℕ) → x < 10 ^ 10 → digits_value 10 0 (decimal x) ≡ x
decimal-back x h = within-back 9 x h

-- ---- no leading zero

-- there is a first digit, and it is past 0
abbrev Starts : List ℕ → Type 0
Starts ds = (0 < length ds) × (digit 0 < get_or ds 0 0)

past-zero : (x : ℕ) → 0 < x → x < 10 → digit 0 < digit x
unfolding digit
past-zero zero p h = absurd (omega arith)
past-zero (suc x) p h = ltb→lt (digit 0) (digit (suc x)) (at (λ n. ltb (digit 0) (digit (suc n))) 9 tt x (omega arith))

one-starts : (n x : ℕ) → 0 < x → x < 10 → Starts (decimal_within (suc n) x)
unfolding decimal_within
one-starts n x p h = rw (lt-ltb x 10 h) (lit< tt, past-zero x p h)

more-starts : (n x : ℕ) → 10 ≤ x → Starts (decimal_within n (x / 10)) → Starts (decimal_within (suc n) x)
unfolding decimal_within
more-starts n x h s =
    let ds = decimal_within n (x / 10) in
    let last = digit (x % 10) ∷ [] in
    rw (le-ltb x 10 h) (omega (arith, length-append ds last), rw (get_or-append ds last 0 0 s.0) s.1)

within-starts : (n x : ℕ) → 0 < x → x < 10 ^ suc n → Starts (decimal_within (suc n) x)
within-starts zero x p h = one-starts zero x p h
within-starts (suc n) x p h =
    ⊎_elim (one-starts (suc n) x p)
    (λ g. more-starts (suc n) x g (within-starts n (x / 10) (omega arith) (omega (arith, pow-suc 10 (suc n))))) (lt-or-ge x 10)

pub decimal-starts : (x : ℕ) → 0 < x → x < 10 ^ 10 → digit 0 < get_or (decimal x) 0 0
decimal-starts x p h = (within-starts 9 x p h).1
