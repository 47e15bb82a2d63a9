-- A word in which one symbol is damaged does not decode.
-- Assumes nothing.
use mathlib.Core.Path.{◌≡◌, sym, subst, ap, ◌∙◌}
use mathlib.Core.Logic.{◌⊎◌, inl, inr, ⊎_elim}
use Prim.Native.Nat.{ℕ, zero, suc, ◌+◌, ◌<◌}
use native.Mathlib.Omega.{arith}
use lib.Bits.{bit_xor}
use Rattle.dshot_reply_spec.proofs.Cases.{equal_or_not}
use Rattle.dshot_reply_spec.proofs.Decode.{bad, nibble-lt, nibbles-xor, reply-nibble, reply-symbol, symbol-small, unequal, xor_of}
use Rattle.dshot_reply_spec.proofs.GcrLaws.{nibble-small, symbol-back}
use Rattle.dshot_reply_spec.proofs.XorLaws.{assoc, cancel_left, cancel_right, nibble-xor}
use Rattle.dshot_reply_spec.specs.Answer.{Answer, refused}
use Rattle.dshot_reply_spec.specs.Refusals.{invalid_symbol, wrong_checksum}
use Rattle.dshot_reply_spec.specs.Gcr.{decode_word, from_nibbles, nibble_at, nibble_of, reply_nibble, reply_word, symbol_at, symbol_of}
use Rattle.dshot_reply_spec.specs.Render.{Damaged}

abbrev pub Undecoded : Answer ℕ → Type 0
Undecoded d = (d ≡ (refused invalid_symbol)) ⊎ (d ≡ (refused wrong_checksum))

-- four nibbles, or marks of bad symbols, do not decode unless all are nibbles and their exclusive or is 0xF
pub not_taken : (f : ℕ → ℕ) → (((p : ℕ) → p < 4 → f p ≡ 255 → ⊥) → xor_of f ≡ 15 → ⊥) → Undecoded (from_nibbles (f 3) (f 2) (f 1) (f 0))
not_taken f h =
    ⊎_elim (λ e. inl (bad (f 3) (f 2) (f 1) (f 0) (inl e)))
    (λ n3. ⊎_elim (λ e. inl (bad (f 3) (f 2) (f 1) (f 0) (inr (inl e))))
    (λ n2. ⊎_elim (λ e. inl (bad (f 3) (f 2) (f 1) (f 0) (inr (inr (inl e)))))
    (λ n1. ⊎_elim (λ e. inl (bad (f 3) (f 2) (f 1) (f 0) (inr (inr (inr e)))))
    (λ n0. let n = each n3 n2 n1 n0 in inr (unequal f n (h n)))
    (equal_or_not (f 0) 255)) (equal_or_not (f 1) 255)) (equal_or_not (f 2) 255)) (equal_or_not (f 3) 255)
  where
    each : (f 3 ≡ 255 → ⊥) → (f 2 ≡ 255 → ⊥) → (f 1 ≡ 255 → ⊥) → (f 0 ≡ 255 → ⊥) → (p : ℕ) → p < 4 → f p ≡ 255 → ⊥
    each n3 n2 n1 n0 zero l = n0
    each n3 n2 n1 n0 (suc zero) l = n1
    each n3 n2 n1 n0 (suc (suc zero)) l = n2
    each n3 n2 n1 n0 (suc (suc (suc zero))) l = n3
    each n3 n2 n1 n0 (suc (suc (suc (suc p)))) l = absurd (omega arith)

-- the other three nibbles and the exclusive or of all four settle one
module _ (f g : ℕ → ℕ) (lf : (p : ℕ) → p < 4 → f p < 16) (lg : (p : ℕ) → p < 4 → g p < 16) where
  two : (h : ℕ → ℕ) → ((p : ℕ) → p < 4 → h p < 16) → bit_xor (h 3) (h 2) < 16
  two h l = nibble-xor (h 3) (h 2) (l 3 (omega arith)) (l 2 (omega arith))

  three : (h : ℕ → ℕ) → ((p : ℕ) → p < 4 → h p < 16) → bit_xor (bit_xor (h 3) (h 2)) (h 1) < 16
  three h l = nibble-xor (bit_xor (h 3) (h 2)) (h 1) (two h l) (l 1 (omega arith))

  -- what stays when the lowest nibbles, which are the same, are taken away
  off0 : f 0 ≡ g 0 → xor_of f ≡ xor_of g → bit_xor (bit_xor (f 3) (f 2)) (f 1) ≡ bit_xor (bit_xor (g 3) (g 2)) (g 1)
  off0 q e =
      cancel_right (bit_xor (bit_xor (f 3) (f 2)) (f 1)) (bit_xor (bit_xor (g 3) (g 2)) (g 1)) (g 0) (three f lf) (three g lg) (lg 0 (omega arith))
      (subst (λ (n : ℕ). bit_xor (bit_xor (bit_xor (f 3) (f 2)) (f 1)) n ≡ xor_of g) q e)

  off1 : f 0 ≡ g 0 → f 1 ≡ g 1 → xor_of f ≡ xor_of g → bit_xor (f 3) (f 2) ≡ bit_xor (g 3) (g 2)
  off1 q r e =
      cancel_right (bit_xor (f 3) (f 2)) (bit_xor (g 3) (g 2)) (g 1) (two f lf) (two g lg) (lg 1 (omega arith))
      (subst (λ (n : ℕ). bit_xor (bit_xor (f 3) (f 2)) n ≡ bit_xor (bit_xor (g 3) (g 2)) (g 1)) r (off0 q e))

  pub settled : (p : ℕ) → p < 4 → ((q : ℕ) → q < 4 → (q ≡ p → ⊥) → f q ≡ g q) → xor_of f ≡ xor_of g → f p ≡ g p
  settled zero l same e =
      cancel_left (f 0) (g 0) (bit_xor (bit_xor (g 3) (g 2)) (g 1)) (lf 0 l) (lg 0 l) (three g lg)
      (rw (same 3 (omega arith) (λ i. omega arith), same 2 (omega arith) (λ i. omega arith), same 1 (omega arith) (λ i. omega arith)) at e)
  settled (suc zero) l same e =
      cancel_left (f 1) (g 1) (bit_xor (g 3) (g 2)) (lf 1 l) (lg 1 l) (two g lg)
      (rw (same 3 (omega arith) (λ i. omega arith), same 2 (omega arith) (λ i. omega arith)) at (off0 (same 0 (omega arith) (λ i. omega arith)) e))
  settled (suc (suc zero)) l same e =
      cancel_left (f 2) (g 2) (g 3) (lf 2 l) (lg 2 l) (lg 3 (omega arith))
      (rw (same 3 (omega arith) (λ i. omega arith)) at (off1 (same 0 (omega arith) (λ i. omega arith)) (same 1 (omega arith) (λ i. omega arith)) e))
  settled (suc (suc (suc zero))) l same e =
      cancel_right (f 3) (g 3) (g 2) (lf 3 l) (lg 3 l) (lg 2 (omega arith))
      (rw (same 2 (omega arith) (λ i. omega arith)) at (off1 (same 0 (omega arith) (λ i. omega arith)) (same 1 (omega arith) (λ i. omega arith)) e))
  settled (suc (suc (suc (suc p)))) l same e = absurd (omega arith)

  -- If all except two neighbours are the same, the exclusive or of the two settles that of all, and the other way round.
  pub pair-settled : (p : ℕ) → p < 3 → ((q : ℕ) → q < 4 → (q ≡ p → ⊥) → (q ≡ p + 1 → ⊥) → f q ≡ g q) → xor_of f ≡ xor_of g → bit_xor (f (p + 1)) (f p) ≡ bit_xor (g (p + 1)) (g p)
  pair-settled zero l same e =
      cancel_left (bit_xor (f 1) (f 0)) (bit_xor (g 1) (g 0)) (bit_xor (g 3) (g 2)) (nibble-xor (f 1) (f 0) (lf 1 (omega arith)) (lf 0 (omega arith)))
      (nibble-xor (g 1) (g 0) (lg 1 (omega arith)) (lg 0 (omega arith))) (two g lg)
      (sym (assoc (bit_xor (g 3) (g 2)) (f 1) (f 0) (two g lg) (lf 1 (omega arith)) (lf 0 (omega arith)))
      ∙ (rw (same 3 (omega arith) (λ i. omega arith) (λ i. omega arith), same 2 (omega arith) (λ i. omega arith) (λ i. omega arith)) at e)
      ∙ assoc (bit_xor (g 3) (g 2)) (g 1) (g 0) (two g lg) (lg 1 (omega arith)) (lg 0 (omega arith)))
  pair-settled (suc zero) l same e =
      cancel_left (bit_xor (f 2) (f 1)) (bit_xor (g 2) (g 1)) (g 3) (nibble-xor (f 2) (f 1) (lf 2 (omega arith)) (lf 1 (omega arith)))
      (nibble-xor (g 2) (g 1) (lg 2 (omega arith)) (lg 1 (omega arith))) (lg 3 (omega arith))
      (sym (assoc (g 3) (f 2) (f 1) (lg 3 (omega arith)) (lf 2 (omega arith)) (lf 1 (omega arith)))
      ∙ (rw (same 3 (omega arith) (λ i. omega arith) (λ i. omega arith)) at (off0 (same 0 (omega arith) (λ i. omega arith) (λ i. omega arith)) e))
      ∙ assoc (g 3) (g 2) (g 1) (lg 3 (omega arith)) (lg 2 (omega arith)) (lg 1 (omega arith)))
  pair-settled (suc (suc zero)) l same e =
      off1 (same 0 (omega arith) (λ i. omega arith) (λ i. omega arith)) (same 1 (omega arith) (λ i. omega arith) (λ i. omega arith)) e
  pair-settled (suc (suc (suc p))) l same e = absurd (omega arith)

  pub pair_keeps : (p : ℕ) → p < 3 → ((q : ℕ) → q < 4 → (q ≡ p → ⊥) → (q ≡ p + 1 → ⊥) → f q ≡ g q) → bit_xor (f (p + 1)) (f p) ≡ bit_xor (g (p + 1)) (g p) → xor_of f ≡ xor_of g
  pair_keeps zero l same e =
      rw (same 3 (omega arith) (λ i. omega arith) (λ i. omega arith), same 2 (omega arith) (λ i. omega arith) (λ i. omega arith))
      (assoc (bit_xor (g 3) (g 2)) (f 1) (f 0) (two g lg) (lf 1 (omega arith)) (lf 0 (omega arith))
      ∙ ap (bit_xor (bit_xor (g 3) (g 2))) e
      ∙ sym (assoc (bit_xor (g 3) (g 2)) (g 1) (g 0) (two g lg) (lg 1 (omega arith)) (lg 0 (omega arith))))
  pair_keeps (suc zero) l same e =
      rw (same 3 (omega arith) (λ i. omega arith) (λ i. omega arith), same 0 (omega arith) (λ i. omega arith) (λ i. omega arith))
      (ap (λ (n : ℕ). bit_xor n (g 0))
      (assoc (g 3) (f 2) (f 1) (lg 3 (omega arith)) (lf 2 (omega arith)) (lf 1 (omega arith))
      ∙ ap (bit_xor (g 3)) e
      ∙ sym (assoc (g 3) (g 2) (g 1) (lg 3 (omega arith)) (lg 2 (omega arith)) (lg 1 (omega arith)))))
  pair_keeps (suc (suc zero)) l same e =
      rw (same 1 (omega arith) (λ i. omega arith) (λ i. omega arith), same 0 (omega arith) (λ i. omega arith) (λ i. omega arith))
      (ap (λ (n : ℕ). bit_xor (bit_xor n (g 1)) (g 0)) e)
  pair_keeps (suc (suc (suc p))) l same e = absurd (omega arith)

pub small-nibbles : (w : ℕ) → ((p : ℕ) → p < 4 → nibble_at w p ≡ 255 → ⊥) → (p : ℕ) → p < 4 → nibble_at w p < 16
small-nibbles w n p l = nibble-small (symbol_at w p) (symbol-small w p) (n p l)

-- a place whose symbol is that of a reply word has its nibble
pub kept : (v w' p : ℕ) → p < 4 → symbol_at w' p ≡ symbol_at (reply_word v) p → nibble_at w' p ≡ reply_nibble v p
kept v w' p l e = ap nibble_of e ∙ reply-nibble v p l

-- a reply word in which one symbol is damaged does not decode
pub damaged : (v w' p : ℕ) → Damaged (reply_word v) w' p → Undecoded (decode_word w')
unfolding decode_word
damaged v w' p d =
    let here : p < 4 = omega arith in
    not_taken (nibble_at w')
    (λ n e.
    let x = settled (nibble_at w') (reply_nibble v) (small-nibbles w' n) (λ q l. nibble-lt v q) p here
    (λ q l i. kept v w' q l (d.others q i)) (e ∙ sym (nibbles-xor v)) in
    d.changed (sym (symbol-back (symbol_at w' p) (symbol-small w' p) (n p here)) ∙ ap symbol_of x ∙ sym (reply-symbol v p here)))
