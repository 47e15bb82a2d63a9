-- The reply word, the line, the decoder and the readings equal those of the documents (specs/Betaflight and specs/Edt).
-- Assumes nothing.
use mathlib.Core.Path.{◌≡◌, sym, refl, ap, ◌∙◌}
use mathlib.Core.Logic.{inl, inr, ⊎_elim}
use mathlib.Core.Bool.{Bool, true, false, ◌||◌}
use mathlib.Core.List.{List, [], ◌∷◌, ◌++◌}
use Prim.Native.Nat.{ℕ, zero, suc, ◌+◌, ◌*◌, ◌-◌, ◌/◌, ◌%◌, ◌^◌, ◌<◌}
use native.Mathlib.Nat.{div-div-eq-div-mul, eq-or-lt_of_le, le_of_suc-le-suc, mod-eq_of_lt, mod-lt, mod-mod, mod-one, not-suc-le-zero, zero-add}
use native.Mathlib.Omega.{arith}
use lib.Arith.{digits_div, digits_mod}
use lib.Bits.{bit_xor, xor_comm, xor_mod}
use lib.Dec.{eqb, lit<}
use lib.ListN.{replicate}
use lib.Pow.{pow_pos, split}
use Rattle.dshot_reply_spec.proofs.Cases.{equal_or_not}
use Rattle.dshot_reply_spec.proofs.Cross.{bit-low}
use Rattle.dshot_reply_spec.proofs.Damage.{small-nibbles}
use Rattle.dshot_reply_spec.proofs.Decode.{bad, decode-reply, nibble-lt, reply-symbol, start-edge, taken, unequal, value-lt, word-again, xor_of}
use Rattle.dshot_reply_spec.proofs.Choice.{not-both}
use Rattle.dshot_reply_spec.proofs.Shift.{bit-above, symbol-below}
use Rattle.dshot_reply_spec.proofs.SimulatedRenders.{low_bits}
use Rattle.dshot_reply_spec.proofs.XorLaws.{assoc, nibble-xor}
use Rattle.dshot_reply_spec.specs.Answer.{Answer, given, pick}
use Rattle.dshot_reply_spec.specs.Betaflight.{crc, gcr, line_from, nearest, number_from, period, reply_bits, reply_line, sampled, speed}
use Rattle.dshot_reply_spec.specs.Edt.{edt_reply, is_speed, typed}
use Rattle.dshot_reply_spec.specs.Gcr.{checksum, decode_word, from_nibbles, nibble_at, reply_nibble, reply_word, symbol_at, symbol_of}
use Rattle.dshot_reply_spec.specs.Move.{bit, word_value}
use Rattle.dshot_reply_spec.specs.Simulate.{bit_levels, next_level}
use Rattle.dshot_reply_spec.specs.Nearest as Nearest
use Rattle.dshot_reply_spec.specs.Value.{Reading, reading_of, reply_of, speed_of, speed_value}

-- ---- functions by their values at the numbers below a bound, the highest first

abbrev values : {A : Type 0} → (ℕ → A) → ℕ → List A
values f zero = []
values f (suc n) = f n ∷ values f n

-- functions with the same values agree below the bound
agree : {A : Type 0} (f g : ℕ → A) (n : ℕ) → values f n ≡ values g n → (k : ℕ) → k < n → f k ≡ g k
agree f g zero e k h = absurd (not-suc-le-zero h)
agree f g (suc n) e k h =
    let head : f n ≡ g n = cc in
    let tail : values f n ≡ values g n = cc in
    ⊎_elim (λ i. rw i head) (λ l. agree f g n tail k l) (eq-or-lt_of_le (le_of_suc-le-suc h))

-- and functions that agree below the bound have the same values
same-values : {A : Type 0} (f g : ℕ → A) (n : ℕ) → ((k : ℕ) → k < n → f k ≡ g k) → values f n ≡ values g n
same-values f g zero h = refl
same-values f g (suc n) h = cc (h n (omega arith), same-values f g n (λ k l. h k (omega arith)))

-- ---- the twenty bits of a reply word

-- the document's checksum is that of the reply
checksums : (v : ℕ) → crc v ≡ checksum v
unfolding crc
checksums v =
    let a = v / 256 % 16 in
    let b = v / 16 % 16 in
    let c = v % 16 in
    let two : bit_xor v (v / 16) % 16 ≡ bit_xor c b = xor_mod v (v / 16) 4 in
    let three : bit_xor (bit_xor v (v / 16)) (v / 256) % 16 ≡ bit_xor (bit_xor c b) a = xor_mod (bit_xor v (v / 16)) (v / 256) 4 ∙ ap (λ (n : ℕ). bit_xor n a) two in
    let turn : bit_xor (bit_xor c b) a ≡ bit_xor (bit_xor a b) c =
    xor_comm (bit_xor c b) a ∙ ap (bit_xor a) (xor_comm c b) ∙ sym (assoc a b c (omega arith) (omega arith) (omega arith)) in
    ap (λ (n : ℕ). 15 - n) (three ∙ turn)
    ∙ agree (λ n. 15 - n) (λ n. bit_xor n 15) 16 refl (bit_xor (bit_xor a b) c) (nibble-xor (bit_xor a b) c (nibble-xor a b (omega arith) (omega arith)) (omega arith))

-- the document's five bits of a nibble are those of its symbol
gcr-bits : (n : ℕ) → n < 16 → gcr n ≡ values (bit (symbol_of n)) 5
unfolding gcr
gcr-bits = agree gcr (λ n. values (bit (symbol_of n)) 5) 16 refl

-- the bits of the symbol at place p are the five from 5p on
symbol-bits : (w p : ℕ) → values (bit (symbol_at w p)) 5 ≡ values (λ k. bit w (5 * p + k)) 5
unfolding symbol_at
symbol-bits w p =
    same-values (bit (symbol_at w p)) (λ k. bit w (5 * p + k)) 5 (λ k h. bit-low (w / 2 ^ (5 * p)) 5 k h ∙ sym (bit-above w (5 * p) k))

-- the document's five bits of each nibble are those at its place of the reply word
nibble-bits : (v p : ℕ) → p < 4 → gcr (reply_nibble v p) ≡ values (λ k. bit (reply_word v) (5 * p + k)) 5
nibble-bits v p h =
    gcr-bits (reply_nibble v p) (nibble-lt v p) ∙ ap (λ (s : ℕ). values (bit s) 5) (sym (reply-symbol v p h)) ∙ symbol-bits (reply_word v) p

-- the twenty bits of the document are those of the reply word
reply-bits : (v : ℕ) → v < 4096 → reply_bits v ≡ values (bit (reply_word v)) 20
unfolding reply_bits
reply-bits v h =
    let top : v / 256 ≡ v / 256 % 16 = omega arith in
    let b3 = ap gcr top ∙ nibble-bits v 3 (lit< tt) in
    let b2 = nibble-bits v 2 (lit< tt) in
    let b1 = nibble-bits v 1 (lit< tt) in
    let b0 = ap gcr (checksums v) ∙ nibble-bits v 0 (lit< tt) in
    rw (b3, b2, b1, b0)

-- ---- 1 and 2: the word and the line

-- the lowest bits of a word, as a number
bits-number : (acc w i : ℕ) → number_from acc (values (bit w) i) ≡ acc * 2 ^ i + w % 2 ^ i
bits-number acc w zero = rw mod-one (omega arith)
bits-number acc w (suc i) =
    let p : 2 ^ suc i ≡ 2 * 2 ^ i = omega arith in
    rw (low_bits w i, p) (bits-number (2 * acc + bit w i) w i ∙ omega arith)

-- 1: the reply word is a 1 for the start edge, and then the twenty bits of the document
pub word-sent : (v : ℕ) → v < 4096 → reply_word v ≡ number_from 1 (reply_bits v)
word-sent v h =
    sym (ap (number_from 1) (reply-bits v h) ∙ bits-number 1 (reply_word v) 20 ∙ omega (arith, start-edge v, split (reply_word v) 20))

-- the twenty bits of the document are the lowest of the reply word
low-sent : (v : ℕ) → v < 4096 → reply_word v % 2 ^ 20 ≡ number_from 0 (reply_bits v)
low-sent v h = sym (ap (number_from 0) (reply-bits v h) ∙ bits-number 0 (reply_word v) 20 ∙ zero-add (reply_word v % 2 ^ 20))

-- the levels of a word are the line of its bits
levels-line : (s : ℕ) (l : Bool) (i w : ℕ) → bit_levels s l i w ≡ sampled s (line_from l (values (bit w) i))
levels-line s l zero w = refl
levels-line s l (suc i) w = ap (λ (ls : List Bool). replicate s (next_level l (bit w i)) ++ ls) (levels-line s (next_level l (bit w i)) i w)

-- 2: the levels of the reply word, s samples a bit, are the line that the document describes
pub line-sent : (s v : ℕ) → v < 4096 → bit_levels s true 21 (reply_word v) ≡ sampled s (reply_line v)
line-sent s v h =
    let start : bit (reply_word v) 20 ≡ 1 = ap (λ (n : ℕ). n % 2) (start-edge v) in
    levels-line s true 21 (reply_word v) ∙ ap (λ (b : ℕ). sampled s (line_from true (b ∷ values (bit (reply_word v)) 20))) start
    ∙ ap (λ (bs : List ℕ). sampled s (false ∷ line_from false bs)) (sym (reply-bits v h))

-- ---- 3 to 5: the decoder

-- words with the same lowest twenty bits decode alike
decode-same : (w w' : ℕ) → w % 2 ^ 20 ≡ w' % 2 ^ 20 → decode_word w ≡ decode_word w'
unfolding decode_word
decode-same w w' e =
    let s : (p : ℕ) → p < 4 → symbol_at w p ≡ symbol_at w' p = λ p h. symbol-below w' w 4 p e h in
    rw (s 3 (lit< tt), s 2 (lit< tt), s 1 (lit< tt), s 0 (lit< tt))

-- 3: bits 20 and up are ignored
pub decode-low : (w : ℕ) → decode_word w ≡ decode_word (w % 2 ^ 20)
decode-low w = decode-same w (w % 2 ^ 20) (sym (mod-mod w (2 ^ 20)))

-- 4: a word whose lowest twenty bits are those of the document for a value decodes to the value
pub decodes : (w v : ℕ) → v < 4096 → w % 2 ^ 20 ≡ number_from 0 (reply_bits v) → decode_word w ≡ given v
decodes w v h e = decode-same w (reply_word v) (e ∙ sym (low-sent v h)) ∙ decode-reply v ∙ ap given (mod-eq_of_lt h)

-- four nibbles that decode are no marks of bad symbols, and their exclusive or is 0xF
module _ (f : ℕ → ℕ) (v : ℕ) (e : from_nibbles (f 3) (f 2) (f 1) (f 0) ≡ given v) where
  no-mark : (p : ℕ) → p < 4 → f p ≡ 255 → ⊥
  no-mark zero h i = not-both e (bad (f 3) (f 2) (f 1) (f 0) (inr (inr (inr i))))
  no-mark (suc zero) h i = not-both e (bad (f 3) (f 2) (f 1) (f 0) (inr (inr (inl i))))
  no-mark (suc (suc zero)) h i = not-both e (bad (f 3) (f 2) (f 1) (f 0) (inr (inl i)))
  no-mark (suc (suc (suc zero))) h i = not-both e (bad (f 3) (f 2) (f 1) (f 0) (inl i))
  no-mark (suc (suc (suc (suc p)))) h i = omega arith

  xor-right : xor_of f ≡ 15
  xor-right = ⊎_elim (λ x. x) (λ n. absurd (not-both e (unequal f no-mark n))) (equal_or_not (xor_of f) 15)

-- a word with its start edge that decodes is the reply word of a value
decoded-start : (w v : ℕ) → w / 2 ^ 20 ≡ 1 → decode_word w ≡ given v → (v < 4096) × (w ≡ reply_word v)
unfolding decode_word
decoded-start w v start e =
    let n = no-mark (nibble_at w) v e in
    let x = xor-right (nibble_at w) v e in
    let same : word_value w ≡ v = let t = taken (nibble_at w) n x in cc in
    let small = small-nibbles w n in
    (rw same at (value-lt w start small x), word-again w start small x ∙ ap reply_word same)

-- 5: and a word that decodes has the twenty bits of its value. So the decoder takes the words of the 4096 values and no others
pub decoded : (w v : ℕ) → decode_word w ≡ given v → (v < 4096) × (w % 2 ^ 20 ≡ number_from 0 (reply_bits v))
decoded w v e =
    let w' = 1 * 2 ^ 20 + w % 2 ^ 20 in
    let low : w' % 2 ^ 20 ≡ w % 2 ^ 20 = digits_mod 1 (mod-lt w (pow_pos 20)) in
    let d = decoded-start w' v (digits_div 1 (mod-lt w (pow_pos 20))) (decode-same w' w low ∙ e) in
    (d.0, sym low ∙ ap (λ (n : ℕ). n % 2 ^ 20) d.1 ∙ low-sent v d.0)

-- ---- 6: the readings

-- to add half of the divisor rounds to the nearest
pub rounded : (a p : ℕ) → Nearest.nearest a p ≡ nearest a p
rounded a p =
    let e : a + p / 2 ≡ (2 * a + p) / 2 = omega arith in
    ap (λ (n : ℕ). n / p) e ∙ div-div-eq-div-mul (2 * a + p) 2 p

-- the speed of a value is the document's
speeds : (v : ℕ) → speed_value v ≡ speed v
unfolding speed_value speed_of speed
speeds v = rw (rounded 600000 (period v))

-- by its type nibble a value is the same speed, or the same typed frame
frames : (a : Answer Reading) (d t : ℕ) → t < 16
    → pick (eqb (t % 2) 1 || eqb t 0) a (given (reading_of (t / 2) d)) ≡ pick (is_speed t) a (given (typed t d))
unfolding reading_of typed
frames a d =
    agree (λ t. pick (eqb (t % 2) 1 || eqb t 0) a (given (reading_of (t / 2) d))) (λ t. pick (is_speed t) a (given (typed t d))) 16 refl

-- 6: a value reads as the documents say
pub value_read : (v : ℕ) (extended : Bool) → reply_of v extended ≡ edt_reply (v % 4096) extended
unfolding reply_of edt_reply
value_read v true =
    let u = v % 4096 in
    let kind : u / 512 ≡ u / 256 / 2 = omega arith in
    rw (kind, speeds u) (frames (speed u) (u % 256) (u / 256) (omega arith))
value_read v false = rw (speeds (v % 4096))
