-- Two neighbouring bits of a number of five or ten bits change places. Shown by tests that the prover computes.
-- Assumes nothing.
use mathlib.Core.Path.{◌≡◌, sym, refl, ap, ◌∙◌}
use mathlib.Core.Bool.{Bool, true, false, not, beq}
use mathlib.Core.List.{List, [], ◌∷◌}
use lib.ListN.{get_or}
use Prim.Native.Nat.{ℕ, ◌+◌, ◌*◌, ◌-◌, ◌/◌, ◌%◌, ◌^◌, ◌<◌, ◌≤◌}
use native.Mathlib.Omega.{arith}
use lib.Dec.{T, eqb, leb, ltb, leb→le, ltb→lt}
use lib.Bits.{bit_xor}
use lib.Pow.{field, mod-mod-pow}
use borrow.Author.Tests.{eq-eqb}
use Rattle.dshot_reply_spec.proofs.Rows.{in-listed, listed, listed_in, passes, same_row}
use Rattle.dshot_reply_spec.proofs.Table.{at, below, both, both_left, both_right}
use Rattle.dshot_reply_spec.proofs.XorLaws.{at2}
use Rattle.dshot_reply_spec.specs.Answer.{pick}
use Rattle.dshot_reply_spec.specs.Gcr.{nibble_of, symbol_of}
use Rattle.dshot_reply_spec.specs.Move.{Turns, bit, turn_table}

-- the bits below m are those of the number modulo 2 ^ m
pub bit-low : (u m i : ℕ) → i < m → bit (u % 2 ^ m) i ≡ bit u i
bit-low u m i h =
    let j = m - i - 1 in
    let e : j + 1 + i ≡ m = omega arith in
    ap (λ (n : ℕ). u % 2 ^ n / 2 ^ i % 2) (sym e) ∙ ap (λ (n : ℕ). n % 2) (field u (j + 1) i) ∙ mod-mod-pow (u / 2 ^ i) j 1

-- if the two change places, x with a 1 at i and a 0 at j stays below 2 ^ m
room-test : ℕ → ℕ → ℕ → ℕ → Bool
room-test m i j x =
    pick (eqb (bit x i) 1) (pick (eqb (bit x j) 0) (both (leb (2 ^ i) x) (ltb (x + 2 ^ j - 2 ^ i) (2 ^ m))) true) true

room_row : ℕ → ℕ → ℕ → Bool
room_row m i j = below (room-test m i j) (2 ^ m)

-- the claim at i and j
abbrev pub Room : ℕ → ℕ → ℕ → Type 0
Room m i j = (x : ℕ) → x < 2 ^ m → bit x i ≡ 1 → bit x j ≡ 0 → (2 ^ i ≤ x) × (x + 2 ^ j - 2 ^ i < 2 ^ m)

tested : (m i j : ℕ) → T (room_row m i j) → Room m i j
unfolding room_row room-test
tested m i j t x h e f =
    let b = rw (eq-eqb (bit x i) 1 e, eq-eqb (bit x j) 0 f) at (at (room-test m i j) (2 ^ m) t x h) in (
      leb→le (2 ^ i) x (both_left (leb (2 ^ i) x) (ltb (x + 2 ^ j - 2 ^ i) (2 ^ m)) b),
      ltb→lt (x + 2 ^ j - 2 ^ i) (2 ^ m) (both_right (leb (2 ^ i) x) (ltb (x + 2 ^ j - 2 ^ i) (2 ^ m)) b),
    )

-- inside a symbol
pub inside : (i j : ℕ) → i < 5 → j < 5 → Room 5 i j
unfolding room_row room-test
inside i j hi hj = tested 5 i j (at2 (room_row 5) 5 5 tt i j hi hj)

-- across the boundary of two symbols
pub across-up : Room 10 4 5
unfolding room_row room-test
across-up = tested 10 4 5 tt

pub across-down : Room 10 5 4
unfolding room_row room-test
across-down = tested 10 5 4 tt

-- ---- the nibbles that turn

-- whether the nibbles a, b turn into c, d
pub turning : ℕ → ℕ → ℕ → ℕ → Bool
turning a b c d = listed (a ∷ b ∷ c ∷ d ∷ []) turn_table

pub turns-of : (a b c d : ℕ) → T (turning a b c d) → Turns a b c d
unfolding turning
turns-of a b c d t = listed_in (a ∷ b ∷ c ∷ d ∷ []) turn_table t

pub turning-of : {a b c d : ℕ} → Turns a b c d → T (turning a b c d)
unfolding turning
turning-of m = in-listed m

-- neither nibble stays
changes : List ℕ → Bool
changes r = both (not (eqb (get_or r 2 0) (get_or r 0 0))) (not (eqb (get_or r 3 0) (get_or r 1 0)))

differ : (x y : ℕ) → T (not (eqb x y)) → x ≡ y → ⊥
differ x y t e = rw (eq-eqb x y e) at t

pub turn-high : {a b c d : ℕ} → Turns a b c d → c ≡ a → ⊥
unfolding changes
turn-high {a} {b} {c} {d} m = differ c a (both_left (not (eqb c a)) (not (eqb d b)) (passes changes tt m))

pub turn_low : {a b c d : ℕ} → Turns a b c d → d ≡ b → ⊥
unfolding changes
turn_low {a} {b} {c} {d} m = differ d b (both_right (not (eqb c a)) (not (eqb d b)) (passes changes tt m))

-- two nibbles with the exclusive or s; neither marks a bad symbol
unfoldable pub good : ℕ → ℕ → ℕ → Bool
good c d s = both (pick (eqb c 255) false true) (both (pick (eqb d 255) false true) (eqb (bit_xor c d) s))

cross-test : ℕ → ℕ → ℕ → ℕ → Bool
cross-test i j a b =
    let x = symbol_of a * 32 + symbol_of b in
    let y = x + 2 ^ j - 2 ^ i in
    let c = nibble_of (y / 32) in
    let d = nibble_of (y % 32) in
    pick (eqb (bit x i) 1) (pick (eqb (bit x j) 0) (beq (good c d (bit_xor a b)) (turning a b c d)) true) true

same_bool : (x y : Bool) → T (beq x y) → x ≡ y
same_bool true true t = refl
same_bool false false t = refl
same_bool true false t = absurd t
same_bool false true t = absurd t

-- The edge at the boundary of two symbols moves. They are symbols of good nibbles with the same exclusive or exactly if the nibbles turn.
abbrev pub Crossed : ℕ → ℕ → Type 0
Crossed i j = (a b x : ℕ) → a < 16 → b < 16 → x ≡ symbol_of a * 32 + symbol_of b → bit x i ≡ 1 → bit x j ≡ 0
    → good (nibble_of ((x + 2 ^ j - 2 ^ i) / 32)) (nibble_of ((x + 2 ^ j - 2 ^ i) % 32)) (bit_xor a b)
    ≡ turning a b (nibble_of ((x + 2 ^ j - 2 ^ i) / 32)) (nibble_of ((x + 2 ^ j - 2 ^ i) % 32))

crossing : (i j : ℕ) → T (below (λ a. below (cross-test i j a) 16) 16) → Crossed i j
unfolding cross-test
crossing i j t a b x ha hb q e f =
    same_bool (good (nibble_of ((x + 2 ^ j - 2 ^ i) / 32)) (nibble_of ((x + 2 ^ j - 2 ^ i) % 32)) (bit_xor a b))
    (turning a b (nibble_of ((x + 2 ^ j - 2 ^ i) / 32)) (nibble_of ((x + 2 ^ j - 2 ^ i) % 32)))
    (rw (← q, eq-eqb (bit x i) 1 e, eq-eqb (bit x j) 0 f) at (at2 (cross-test i j) 16 16 t a b ha hb))

pub crossed-up : Crossed 4 5
unfolding cross-test good turning listed same_row nibble_of
crossed-up = crossing 4 5 tt

pub crossed-down : Crossed 5 4
unfolding cross-test good turning listed same_row nibble_of
crossed-down = crossing 5 4 tt
