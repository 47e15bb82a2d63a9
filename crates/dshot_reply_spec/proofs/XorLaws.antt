-- The exclusive or of nibbles, by tests that the prover computes.
-- Assumes nothing.
use mathlib.Core.Path.{◌≡◌, sym, ap, ◌∙◌}
use mathlib.Core.Bool.{Bool}
use Prim.Native.Nat.{ℕ, ◌<◌}
use lib.Bits.{bit_xor, xor_lt, xor_comm}
use lib.Dec.{T, eqb, eqb→eq}
use Rattle.dshot_reply_spec.proofs.Table.{at, below}

pub at2 : (f : ℕ → ℕ → Bool) (m n : ℕ) → T (below (λ x. below (f x) n) m) → (x y : ℕ) → x < m → y < n → T (f x y)
at2 f m n t x y hx hy = at (f x) n (at (λ z. below (f z) n) m t x hx) y hy

pub nibble-xor : (x y : ℕ) → x < 16 → y < 16 → bit_xor x y < 16
nibble-xor x y hx hy = xor_lt 4 x y hx hy

twice-test : ℕ → ℕ → Bool
twice-test x z = eqb (bit_xor (bit_xor x z) z) x

pub twice : (x z : ℕ) → x < 16 → z < 16 → bit_xor (bit_xor x z) z ≡ x
unfolding twice-test
twice x z hx hz = eqb→eq (bit_xor (bit_xor x z) z) x (at2 twice-test 16 16 tt x z hx hz)

pub cancel_right : (x y z : ℕ) → x < 16 → y < 16 → z < 16 → bit_xor x z ≡ bit_xor y z → x ≡ y
cancel_right x y z hx hy hz e = sym (twice x z hx hz) ∙ ap (λ (n : ℕ). bit_xor n z) e ∙ twice y z hy hz

pub cancel_left : (x y z : ℕ) → x < 16 → y < 16 → z < 16 → bit_xor z x ≡ bit_xor z y → x ≡ y
cancel_left x y z hx hy hz e = cancel_right x y z hx hy hz (xor_comm x z ∙ e ∙ xor_comm z y)

assoc-test : ℕ → ℕ → ℕ → Bool
assoc-test x y z = eqb (bit_xor (bit_xor x y) z) (bit_xor x (bit_xor y z))

assoc-row : ℕ → ℕ → Bool
assoc-row x y = below (assoc-test x y) 16

pub assoc : (x y z : ℕ) → x < 16 → y < 16 → z < 16 → bit_xor (bit_xor x y) z ≡ bit_xor x (bit_xor y z)
unfolding assoc-row assoc-test
assoc x y z hx hy hz =
    eqb→eq (bit_xor (bit_xor x y) z) (bit_xor x (bit_xor y z)) (at (assoc-test x y) 16 (at2 assoc-row 16 16 tt x y hx hy) z hz)

complement-test : ℕ → Bool
complement-test x = eqb (bit_xor x (bit_xor x 15)) 15

pub complement : (x : ℕ) → x < 16 → bit_xor x (bit_xor x 15) ≡ 15
unfolding complement-test
complement x h = eqb→eq (bit_xor x (bit_xor x 15)) 15 (at complement-test 16 tt x h)
