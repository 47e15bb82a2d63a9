-- The rule of the GCR code: a symbol is read back as its nibble. Shown by tests that the prover computes at each nibble and at each code of five
-- bits.
-- Assumes nothing.
use mathlib.Core.Path.{◌≡◌}
use mathlib.Core.Bool.{Bool, true}
use Prim.Native.Nat.{ℕ, ◌%◌, ◌<◌}
use lib.Dec.{eqb, ltb, eqb→eq, ltb→lt}
use borrow.Author.Tests.{eq-eqb, ne_eqb}
use Rattle.dshot_reply_spec.proofs.Table.{at}
use Rattle.dshot_reply_spec.specs.Answer.{pick}
use Rattle.dshot_reply_spec.specs.Gcr.{nibble_of, symbol_of}

-- a nibble, or the mark of a bad symbol
small : ℕ → Bool
small s = pick (eqb (nibble_of s) 255) true (ltb (nibble_of s) 16)

pub nibble-small : (s : ℕ) → s < 32 → (nibble_of s ≡ 255 → ⊥) → nibble_of s < 16
unfolding small nibble_of
nibble-small s h ne = ltb→lt (nibble_of s) 16 (rw (ne_eqb (nibble_of s) 255 ne) at (at small 32 tt s h))

read-back-test : ℕ → Bool
read-back-test n = eqb (nibble_of (symbol_of n)) n

pub read_back : (n : ℕ) → n < 16 → nibble_of (symbol_of n) ≡ n
unfolding read-back-test nibble_of
read_back n h = eqb→eq (nibble_of (symbol_of n)) n (at read-back-test 16 tt n h)

symbol-test : ℕ → Bool
symbol-test n = ltb (symbol_of n) 32

pub symbol-lt : (n : ℕ) → n < 16 → symbol_of n < 32
unfolding symbol-test
symbol-lt n h = ltb→lt (symbol_of n) 32 (at symbol-test 16 tt n h)

back-test : ℕ → Bool
back-test s = pick (eqb (nibble_of s) 255) true (eqb (symbol_of (nibble_of s)) s)

pub symbol-back : (s : ℕ) → s < 32 → (nibble_of s ≡ 255 → ⊥) → symbol_of (nibble_of s) ≡ s
unfolding back-test nibble_of
symbol-back s h ne = eqb→eq (symbol_of (nibble_of s)) s (rw (ne_eqb (nibble_of s) 255 ne) at (at back-test 32 tt s h))

eight-test : ℕ → Bool
eight-test s = pick (eqb (s % 8) 0) (eqb (nibble_of s) 255) true

-- no symbol ends in three zeros
pub eight-bad : (s : ℕ) → s < 32 → s % 8 ≡ 0 → nibble_of s ≡ 255
unfolding eight-test nibble_of
eight-bad s h e = eqb→eq (nibble_of s) 255 (rw (eq-eqb (s % 8) 0 e) at (at eight-test 32 tt s h))
