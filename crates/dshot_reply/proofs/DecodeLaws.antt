-- What the sum of three nibbles and the fourth nibble say of a word. A nibble may be the mark of a bad symbol.
-- Assumes nothing.
use mathlib.Core.Path.{◌≡◌, sym, subst, ◌∙◌}
use mathlib.Core.Logic.{◌⊎◌, inl, inr, ⊎_elim}
use mathlib.Core.Bool.{Bool, not}
use Prim.Native.Nat.{ℕ, zero, suc, ◌+◌, ◌*◌, ◌/◌, ◌%◌, ◌<◌, ◌≤◌}
use native.Mathlib.Nat.{div-one}
use native.Mathlib.Omega.{arith}
use lib.Bits.{bit_xor}
use lib.Dec.{eqb}
use borrow.Author.Tests.{eq-eqb}
use Rattle.dshot_reply_spec.proofs.Cases.{equal_or_not}
use Rattle.dshot_reply_spec.proofs.Decode.{bad, symbol-small, taken, unequal}
use Rattle.dshot_reply_spec.proofs.GcrLaws.{nibble-small}
use Rattle.dshot_reply_spec.proofs.Table.{at}
use Rattle.dshot_reply_spec.proofs.XorLaws.{nibble-xor}
use Rattle.dshot_reply_spec.specs.Answer.{given, refused}
use Rattle.dshot_reply_spec.specs.Refusals.{invalid_symbol, wrong_checksum}
use Rattle.dshot_reply.proofs.Tables.{decode_rule}
use Rattle.dshot_reply_spec.specs.Gcr.{decode_word, from_nibbles, nibble_at, nibble_of, symbol_at}

abbrev Mark : ℕ → Type 0
Mark x = (x ≡ 255) ⊎ (x < 16)

mark : (w p : ℕ) → Mark (nibble_at w p)
mark w p = ⊎_elim inl (λ n. inr (nibble-small (symbol_at w p) (symbol-small w p) n)) (equal_or_not (nibble_at w p) 255)

-- a nibble and the mark of a bad symbol do not make 0xF
apart-test : ℕ → Bool
apart-test u = not (eqb (bit_xor u 255) 15)

apart : (u : ℕ) → u < 16 → bit_xor u 255 ≡ 15 → ⊥
unfolding apart-test
apart u h e = rw (eq-eqb (bit_xor u 255) 15 e) at (at apart-test 16 tt u h)

small-mark : (x : ℕ) → Mark x → x < 255 → x < 16
small-mark x (inl e) h = absurd (omega arith)
small-mark x (inr l) h = l

module _ (w a b c d : ℕ) (ea : a ≡ nibble_of (w / 32768 % 32)) (eb : b ≡ nibble_of (w / 1024 % 32)) (ec : c ≡ nibble_of (w / 32 % 32)) (ed : d ≡ nibble_of (w % 32)) where
  at3 : a ≡ nibble_at w 3
  unfolding symbol_at
  at3 = ea

  at2 : b ≡ nibble_at w 2
  unfolding symbol_at
  at2 = eb

  at1 : c ≡ nibble_at w 1
  unfolding symbol_at
  at1 = ec

  at0 : d ≡ nibble_at w 0
  unfolding symbol_at
  at0 = rw div-one ed

  mark3 : Mark a
  mark3 = subst Mark (sym at3) (mark w 3)

  mark2 : Mark b
  mark2 = subst Mark (sym at2) (mark w 2)

  mark1 : Mark c
  mark1 = subst Mark (sym at1) (mark w 1)

  mark0 : Mark d
  mark0 = subst Mark (sym at0) (mark w 0)

  whole : decode_word w ≡ from_nibbles a b c d
  unfolding decode_word
  whole = sym (same at3 at2 at1 at0)
    where
      same : {a b c d a' b' c' d' : ℕ} → a ≡ a' → b ≡ b' → c ≡ c' → d ≡ d' → from_nibbles a b c d ≡ from_nibbles a' b' c' d'
      same e f g h = cc

  pub decode_last : 15 < d → decode_word w ≡ refused invalid_symbol
  decode_last h = go mark0
    where
      go : Mark d → decode_word w ≡ refused invalid_symbol
      go (inl e) = whole ∙ bad a b c d (inr (inr (inr e)))
      go (inr l) = absurd (omega arith)

  places : ℕ → ℕ
  places zero = d
  places (suc zero) = c
  places (suc (suc zero)) = b
  places (suc (suc (suc p))) = a

  none-bad : a < 255 → b < 255 → c < 255 → d < 255 → (p : ℕ) → p < 4 → places p ≡ 255 → ⊥
  unfolding places
  none-bad x y z u zero l e = omega arith
  none-bad x y z u (suc zero) l e = omega arith
  none-bad x y z u (suc (suc zero)) l e = omega arith
  none-bad x y z u (suc (suc (suc p))) l e = omega arith

  pub decode_unequal : a + b + c + d < 61 → (bit_xor (bit_xor (bit_xor a b) c) d ≡ 15 → ⊥) → decode_word w ≡ refused wrong_checksum
  unfolding places
  decode_unequal h n = whole ∙ unequal places (none-bad (omega arith) (omega arith) (omega arith) (omega arith)) n

  -- if three are nibbles and the exclusive or is 0xF, the fourth is a nibble
  fourth : a + b + c ≤ 45 → bit_xor (bit_xor (bit_xor a b) c) d ≡ 15 → d < 255
  fourth h n = go mark0
    where
      u : bit_xor (bit_xor a b) c < 16
      u =
          nibble-xor (bit_xor a b) c (nibble-xor a b (small-mark a mark3 (omega arith)) (small-mark b mark2 (omega arith)))
          (small-mark c mark1 (omega arith))

      go : Mark d → d < 255
      go (inl e) = absurd (apart (bit_xor (bit_xor a b) c) u (subst (λ (x : ℕ). bit_xor (bit_xor (bit_xor a b) c) x ≡ 15) e n))
      go (inr l) = omega arith

  pub decode_value : a + b + c ≤ 45 → bit_xor (bit_xor (bit_xor a b) c) d ≡ 15 → decode_word w ≡ given (a * 256 + b * 16 + c)
  unfolding places
  decode_value h n = whole ∙ taken places (none-bad (omega arith) (omega arith) (omega arith) (fourth h n)) n

  pub decode_three : 45 < a + b + c → decode_word w ≡ refused invalid_symbol
  decode_three h = go mark3 mark2 mark1
    where
      go : Mark a → Mark b → Mark c → decode_word w ≡ refused invalid_symbol
      go (inl e) y z = whole ∙ bad a b c d (inl e)
      go (inr x) (inl e) z = whole ∙ bad a b c d (inr (inl e))
      go (inr x) (inr y) (inl e) = whole ∙ bad a b c d (inr (inr (inl e)))
      go (inr x) (inr y) (inr z) = absurd (omega arith)

-- for the goals of `decode_gcr`
pub ruleset decode_cases = (decode_rule, decode_three, decode_value, decode_last, decode_unequal)
