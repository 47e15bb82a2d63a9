-- What four nibbles decode to, and the symbols of a word. If a word decodes, it is the reply word of its value.
-- Assumes nothing.
use mathlib.Core.Path.{◌≡◌, sym, refl, ap, ◌∙◌}
use mathlib.Core.Logic.{◌⊎◌, inl, inr}
use mathlib.Core.Bool.{Bool, true, false}
use Prim.Native.Nat.{ℕ, zero, suc, ◌+◌, ◌*◌, ◌/◌, ◌%◌, ◌^◌, ◌<◌}
use native.Mathlib.Nat.{div-one, div-div-eq-div-mul}
use native.Mathlib.Omega.{arith}
use lib.Arith.{digits_div, digits_mod, mod-mul}
use lib.Bits.{bit_xor}
use lib.Dec.{eqb, lit<}
use borrow.Author.Tests.{eq-eqb, ne_eqb}
use Rattle.dshot_reply_spec.proofs.GcrLaws.{eight-bad, read_back, symbol-back, symbol-lt}
use Rattle.dshot_reply_spec.proofs.XorLaws.{cancel_left, complement, nibble-xor}
use Rattle.dshot_reply_spec.specs.Answer.{Answer, given, pick, refused}
use Rattle.dshot_reply_spec.specs.Refusals.{invalid_symbol, wrong_checksum}
use Rattle.dshot_reply_spec.specs.Gcr.{checksum, decode_word, from_nibbles, nibble_at, nibble_of, reply_nibble, reply_word, symbol_at, symbol_of, word_of}
use Rattle.dshot_reply_spec.specs.Move.{word_value}

-- ---- what four nibbles decode to

bad-symbol : Answer ℕ
bad-symbol = refused invalid_symbol

pick_same : (b : Bool) → pick b (refused invalid_symbol) (refused invalid_symbol) ≡ bad-symbol
unfolding bad-symbol
pick_same true = refl
pick_same false = refl

-- the exclusive or of the nibbles at the places 3 to 0
abbrev pub xor_of : (ℕ → ℕ) → ℕ
xor_of f = bit_xor (bit_xor (bit_xor (f 3) (f 2)) (f 1)) (f 0)

pub bad : (a b c d : ℕ) → (a ≡ 255) ⊎ ((b ≡ 255) ⊎ ((c ≡ 255) ⊎ (d ≡ 255))) → from_nibbles a b c d ≡ refused invalid_symbol
unfolding from_nibbles bad-symbol
bad a b c d (inl e) = rw (eq-eqb a 255 e)
bad a b c d (inr (inl e)) = rw (eq-eqb b 255 e) (pick_same (eqb a 255))
bad a b c d (inr (inr (inl e))) = rw (eq-eqb c 255 e, pick_same (eqb b 255)) (pick_same (eqb a 255))
bad a b c d (inr (inr (inr e))) =
    rw (eq-eqb d 255 e, pick_same (eqb c 255), pick_same (eqb b 255)) (pick_same (eqb a 255))

-- four nibbles with the exclusive or 0xF decode, and with another do not
module _ (f : ℕ → ℕ) (n : (p : ℕ) → p < 4 → f p ≡ 255 → ⊥) where
  n0 : eqb (f 0) 255 ≡ false
  n0 = ne_eqb (f 0) 255 (n 0 (omega arith))

  n1 : eqb (f 1) 255 ≡ false
  n1 = ne_eqb (f 1) 255 (n 1 (omega arith))

  n2 : eqb (f 2) 255 ≡ false
  n2 = ne_eqb (f 2) 255 (n 2 (omega arith))

  n3 : eqb (f 3) 255 ≡ false
  n3 = ne_eqb (f 3) 255 (n 3 (omega arith))

  pub taken : xor_of f ≡ 15 → from_nibbles (f 3) (f 2) (f 1) (f 0) ≡ given (f 3 * 256 + f 2 * 16 + f 1)
  unfolding from_nibbles
  taken e = rw (n3, n2, n1, n0, eq-eqb (xor_of f) 15 e)

  pub unequal : (xor_of f ≡ 15 → ⊥) → from_nibbles (f 3) (f 2) (f 1) (f 0) ≡ refused wrong_checksum
  unfolding from_nibbles
  unequal e = rw (n3, n2, n1, n0, ne_eqb (xor_of f) 15 e)

-- ---- the symbols of a word

module _ (a b c d : ℕ) (ha : a < 32) (hb : b < 32) (hc : c < 32) (hd : d < 32) where
  up0 : word_of a b c d / 32 ≡ ((32 + a) * 32 + b) * 32 + c
  unfolding word_of
  up0 = digits_div (((32 + a) * 32 + b) * 32 + c) hd

  up1 : word_of a b c d / 1024 ≡ (32 + a) * 32 + b
  up1 = sym (div-div-eq-div-mul (word_of a b c d) 32 32) ∙ ap (λ (n : ℕ). n / 32) up0 ∙ digits_div ((32 + a) * 32 + b) hc

  up2 : word_of a b c d / 32768 ≡ 32 + a
  up2 = sym (div-div-eq-div-mul (word_of a b c d) 1024 32) ∙ ap (λ (n : ℕ). n / 32) up1 ∙ digits_div (32 + a) hb

  pub symbol0 : symbol_at (word_of a b c d) 0 ≡ d
  unfolding symbol_at word_of
  symbol0 = rw div-one (digits_mod (((32 + a) * 32 + b) * 32 + c) hd)

  pub symbol1 : symbol_at (word_of a b c d) 1 ≡ c
  unfolding symbol_at
  symbol1 = rw up0 (digits_mod ((32 + a) * 32 + b) hc)

  pub symbol2 : symbol_at (word_of a b c d) 2 ≡ b
  unfolding symbol_at
  symbol2 = rw up1 (digits_mod (32 + a) hb)

  pub symbol3 : symbol_at (word_of a b c d) 3 ≡ a
  unfolding symbol_at
  symbol3 = rw up2 (omega (arith, digits_mod 1 ha))

  pub start-bit : word_of a b c d / 2 ^ 20 ≡ 1
  start-bit = sym (div-div-eq-div-mul (word_of a b c d) 32768 32) ∙ ap (λ (n : ℕ). n / 32) up2 ∙ omega (arith, digits_div 1 ha)

-- ---- a reply word

pub nibble-lt : (v p : ℕ) → reply_nibble v p < 16
nibble-lt v zero =
    nibble-xor (bit_xor (bit_xor (v / 256 % 16) (v / 16 % 16)) (v % 16)) 15
    (nibble-xor (bit_xor (v / 256 % 16) (v / 16 % 16)) (v % 16) (nibble-xor (v / 256 % 16) (v / 16 % 16) (omega arith) (omega arith)) (omega arith))
    (omega arith)
nibble-lt v (suc zero) = omega arith
nibble-lt v (suc (suc zero)) = omega arith
nibble-lt v (suc (suc (suc p))) = omega arith

pub nibbles-xor : (v : ℕ) → xor_of (reply_nibble v) ≡ 15
nibbles-xor v =
    complement (bit_xor (bit_xor (v / 256 % 16) (v / 16 % 16)) (v % 16))
    (nibble-xor (bit_xor (v / 256 % 16) (v / 16 % 16)) (v % 16) (nibble-xor (v / 256 % 16) (v / 16 % 16) (omega arith) (omega arith)) (omega arith))

pub reply-symbol : (v p : ℕ) → p < 4 → symbol_at (reply_word v) p ≡ symbol_of (reply_nibble v p)
unfolding reply_word
reply-symbol v p h = go p h
  where
    s : (q : ℕ) → symbol_of (reply_nibble v q) < 32
    s q = symbol-lt (reply_nibble v q) (nibble-lt v q)

    a : ℕ → ℕ
    a q = symbol_of (reply_nibble v q)

    go : (q : ℕ) → q < 4 → symbol_at (reply_word v) q ≡ symbol_of (reply_nibble v q)
    go zero h = symbol0 (a 3) (a 2) (a 1) (a 0) (s 3) (s 2) (s 1) (s 0)
    go (suc zero) h = symbol1 (a 3) (a 2) (a 1) (a 0) (s 3) (s 2) (s 1) (s 0)
    go (suc (suc zero)) h = symbol2 (a 3) (a 2) (a 1) (a 0) (s 3) (s 2) (s 1) (s 0)
    go (suc (suc (suc zero))) h = symbol3 (a 3) (a 2) (a 1) (a 0) (s 3) (s 2) (s 1) (s 0)
    go (suc (suc (suc (suc q)))) h = absurd (omega arith)

-- a reply word has its start edge
pub start-edge : (v : ℕ) → reply_word v / 2 ^ 20 ≡ 1
unfolding reply_word
start-edge v =
    start-bit (symbol_of (reply_nibble v 3)) (symbol_of (reply_nibble v 2)) (symbol_of (reply_nibble v 1)) (symbol_of (reply_nibble v 0))
    (symbol-lt (reply_nibble v 3) (nibble-lt v 3)) (symbol-lt (reply_nibble v 2) (nibble-lt v 2)) (symbol-lt (reply_nibble v 1) (nibble-lt v 1)) (symbol-lt (reply_nibble v 0) (nibble-lt v 0))

-- the nibbles of a reply word are those of the reply
pub reply-nibble : (v p : ℕ) → p < 4 → nibble_of (symbol_at (reply_word v) p) ≡ reply_nibble v p
reply-nibble v p h = ap nibble_of (reply-symbol v p h) ∙ read_back (reply_nibble v p) (nibble-lt v p)

value-mod : (v : ℕ) → v / 256 % 16 * 256 + v / 16 % 16 * 16 + v % 16 ≡ v % 4096
value-mod v = omega (arith, mod-mul v {m = 16} {c = 256} (lit< tt) (lit< tt), mod-mul v {m = 16} {c = 16} (lit< tt) (lit< tt))

-- a reply word decodes to its value
pub decode-reply : (v : ℕ) → decode_word (reply_word v) ≡ given (v % 4096)
unfolding decode_word
decode-reply v =
    rw (reply-nibble v 3 (omega arith), reply-nibble v 2 (omega arith), reply-nibble v 1 (omega arith), reply-nibble v 0 (omega arith))
    (taken (reply_nibble v) (λ p h e. omega (arith, nibble-lt v p)) (nibbles-xor v) ∙ ap given (value-mod v))

mod-eight : (w : ℕ) → w / 1 % 32 % 8 ≡ w % 8
mod-eight w = rw div-one (omega arith)

-- a word that ends in three zeros does not decode
pub ends-in-zeros : (w : ℕ) → w % 8 ≡ 0 → decode_word w ≡ refused invalid_symbol
unfolding decode_word symbol_at
ends-in-zeros w e =
    bad (nibble_of (symbol_at w 3)) (nibble_of (symbol_at w 2)) (nibble_of (symbol_at w 1)) (nibble_of (symbol_at w 0))
    (inr (inr (inr (eight-bad (symbol_at w 0) (omega arith) (mod-eight w ∙ e)))))

pub symbol-small : (w p : ℕ) → symbol_at w p < 32
unfolding symbol_at
symbol-small w p = omega arith

joined : (w x y z a b c d : ℕ) → w ≡ x * 32 + a → x ≡ y * 32 + b → y ≡ z * 32 + c → z ≡ 32 + d → w ≡ (((32 + d) * 32 + c) * 32 + b) * 32 + a
joined w x y z a b c d e f g h = omega arith

same_word : {a b c d a' b' c' d' : ℕ} → a ≡ a' → b ≡ b' → c ≡ c' → d ≡ d' → word_of a b c d ≡ word_of a' b' c' d'
same_word e f g h = cc

-- ---- a word that decodes is the reply word of its value

module _ (w : ℕ) (start : w / 2 ^ 20 ≡ 1) (n : (p : ℕ) → p < 4 → nibble_at w p < 16) (x : xor_of (nibble_at w) ≡ 15) where
  high : word_value w / 256 % 16 ≡ nibble_at w 3
  high = omega (arith, n 3 (lit< tt), n 2 (lit< tt), n 1 (lit< tt))

  middle : word_value w / 16 % 16 ≡ nibble_at w 2
  middle = omega (arith, n 3 (lit< tt), n 2 (lit< tt), n 1 (lit< tt))

  low : word_value w % 16 ≡ nibble_at w 1
  low = omega (arith, n 3 (lit< tt), n 2 (lit< tt), n 1 (lit< tt))

  check : checksum (word_value w) ≡ nibble_at w 0
  check =
      let u = bit_xor (bit_xor (nibble_at w 3) (nibble_at w 2)) (nibble_at w 1) in
      let three : u < 16 = nibble-xor (bit_xor (nibble_at w 3) (nibble_at w 2)) (nibble_at w 1) (nibble-xor (nibble_at w 3) (nibble_at w 2) (n 3 (lit< tt)) (n 2 (lit< tt))) (n 1 (lit< tt)) in
      rw (high, middle, low) (cancel_left (bit_xor u 15) (nibble_at w 0) u (nibble-xor u 15 three (lit< tt)) (n 0 (lit< tt)) three (complement u three ∙ sym x))

  pub value-nibble : (p : ℕ) → p < 4 → reply_nibble (word_value w) p ≡ nibble_at w p
  value-nibble zero h = check
  value-nibble (suc zero) h = low
  value-nibble (suc (suc zero)) h = middle
  value-nibble (suc (suc (suc zero))) h = high
  value-nibble (suc (suc (suc (suc p)))) h = absurd (omega arith)

  pub value-lt : word_value w < 4096
  value-lt = omega (arith, n 3 (lit< tt), n 2 (lit< tt), n 1 (lit< tt))

  symbols : w ≡ word_of (symbol_at w 3) (symbol_at w 2) (symbol_at w 1) (symbol_at w 0)
  unfolding word_of symbol_at
  symbols =
      rw div-one
      (joined w (w / 32) (w / 1024) (w / 32768) (w % 32) (w / 32 % 32) (w / 1024 % 32) (w / 32768 % 32) (omega arith)
      (omega (arith, div-div-eq-div-mul w 32 32)) (omega (arith, div-div-eq-div-mul w 1024 32)) (omega (arith, div-div-eq-div-mul w 32768 32)))

  symbol-of-value : (p : ℕ) → p < 4 → symbol_at w p ≡ symbol_of (reply_nibble (word_value w) p)
  symbol-of-value p h = sym (ap symbol_of (value-nibble p h) ∙ symbol-back (symbol_at w p) (symbol-small w p) (λ e. omega (arith, n p h)))

  pub word-again : w ≡ reply_word (word_value w)
  unfolding reply_word
  word-again =
      symbols ∙ same_word (symbol-of-value 3 (lit< tt)) (symbol-of-value 2 (lit< tt)) (symbol-of-value 1 (lit< tt)) (symbol-of-value 0 (lit< tt))
