-- One edge of a reply word has moved by one bit. The word decodes exactly if two neighbouring nibbles turn 1,9 to 8,0 or 1,D to 8,4, or back.
-- Assumes nothing.
use mathlib.Core.Path.{◌≡◌, sym, subst, refl, ap, ◌∙◌}
use mathlib.Core.Logic.{◌⊎◌, inl, inr, ⊎_elim}
use mathlib.Core.Bool.{Bool, true, false}
use Prim.Native.Nat.{ℕ, ◌+◌, ◌*◌, ◌-◌, ◌/◌, ◌%◌, ◌^◌, ◌<◌, ◌≤◌}
use native.Mathlib.Numerals.{add-one}
use native.Mathlib.Nat.{eq-or-lt_of_le, mod-le, mod-lt}
use native.Mathlib.Omega.{arith}
use lib.Arith.{digits_div, digits_mod}
use lib.Dec.{T, eqb, eqb→eq}
use borrow.Author.Tests.{eq-eqb, ne_eqb}
use lib.Bits.{bit_xor}
use lib.Pow.{pow_pos, pow-add, shr-shr, field, mod-mod-pow, split}
use Rattle.dshot_reply_spec.proofs.Cases.{equal_or_not, lt-or-eq-or-gt, lt-or-ge}
use Rattle.dshot_reply_spec.proofs.Cross.{Crossed, Room, across-down, across-up, bit-low, crossed-down, crossed-up, good, inside, turn-high, turn_low, turning, turning-of, turns-of}
use Rattle.dshot_reply_spec.proofs.Damage.{Undecoded, damaged, kept, not_taken, pair_keeps, pair-settled, small-nibbles}
use Rattle.dshot_reply_spec.proofs.Decode.{nibble-lt, nibbles-xor, reply-nibble, reply-symbol, start-edge, value-lt, value-nibble, word-again, xor_of}
use Rattle.dshot_reply_spec.proofs.Shift.{above, bit-above, symbol-above, symbol-below, under}
use Rattle.dshot_reply_spec.proofs.Table.{both, both_right}
use Rattle.dshot_reply_spec.specs.Answer.{pick}
use Rattle.dshot_reply_spec.specs.Gcr.{decode_word, nibble_at, nibble_of, reply_nibble, reply_word, symbol_at, symbol_of}
use Rattle.dshot_reply_spec.specs.Move.{Formed, Moved, Turned, Turns, bit, word_value}
use Rattle.dshot_reply_spec.specs.Render.{Damaged}

-- what the word has above its lowest 5q bits, if a bit i and a bit j of that change places below m
record Local (w w' q m i j : ℕ) : Type 0 where
  low : w' % 2 ^ (5 * q) ≡ w % 2 ^ (5 * q)
  top : w' / 2 ^ (5 * q) / 2 ^ m ≡ w / 2 ^ (5 * q) / 2 ^ m
  mid : w' / 2 ^ (5 * q) % 2 ^ m ≡ w / 2 ^ (5 * q) % 2 ^ m + 2 ^ j - 2 ^ i
  there : 2 ^ i ≤ w / 2 ^ (5 * q) % 2 ^ m
  one : bit (w / 2 ^ (5 * q) % 2 ^ m) i ≡ 1
  none : bit (w / 2 ^ (5 * q) % 2 ^ m) j ≡ 0

local : (w w' q m i j : ℕ) → i < m → j < m → Room m i j → w' + 2 ^ (5 * q + i) ≡ w + 2 ^ (5 * q + j) → bit w (5 * q + i) ≡ 1 → bit w (5 * q + j) ≡ 0
    → Local w w' q m i j
local w w' q m i j hi hj room e b z =
    let u = w / 2 ^ (5 * q) in
    let x = u % 2 ^ m in
    let b' : bit x i ≡ 1 = bit-low u m i hi ∙ sym (bit-above w (5 * q) i) ∙ b in
    let z' : bit x j ≡ 0 = bit-low u m j hj ∙ sym (bit-above w (5 * q) j) ∙ z in
    let fit = room x (mod-lt u (pow_pos m)) b' z' in
    let reach : 2 ^ i ≤ u = omega (arith, mod-le u (2 ^ m), fit.0) in
    let whole : w' / 2 ^ (5 * q) ≡ u / 2 ^ m * 2 ^ m + (x + 2 ^ j - 2 ^ i) = omega (arith, above w w' (5 * q) i j e reach, split u m, fit.0) in
    record {
      low = under w w' (5 * q) i j e reach;
      top = ap (λ (n : ℕ). n / 2 ^ m) whole ∙ digits_div (u / 2 ^ m) fit.1;
      mid = ap (λ (n : ℕ). n % 2 ^ m) whole ∙ digits_mod (u / 2 ^ m) fit.1;
      there = fit.0;
      one = b';
      none = z';
    }

-- the symbols at and above q + a, if all above 5a bits from 5q on is the same
pub symbol-top : (w w' q a p : ℕ) → w' / 2 ^ (5 * q) / 2 ^ (5 * a) ≡ w / 2 ^ (5 * q) / 2 ^ (5 * a) → q + a ≤ p → symbol_at w' p ≡ symbol_at w p
symbol-top w w' q a p e h =
    let d = p - (q + a) in
    let s : p ≡ q + (a + d) = omega arith in
    ap (symbol_at w') s ∙ symbol-above w' q (a + d) ∙ symbol-above (w' / 2 ^ (5 * q)) a d
    ∙ ap (λ (n : ℕ). symbol_at n d) e
    ∙ sym (ap (symbol_at w) s ∙ symbol-above w q (a + d) ∙ symbol-above (w / 2 ^ (5 * q)) a d)

-- the symbol at q is the lowest five bits of what stands there
symbol-here : (w q : ℕ) → symbol_at w q ≡ w / 2 ^ (5 * q) % 32
unfolding symbol_at
symbol-here w q = refl

-- a move inside the symbol at q damages only that symbol
inside-damages : (w w' q i j : ℕ) → q < 4 → (2 ^ i ≡ 2 ^ j → ⊥) → Local w w' q 5 i j → Damaged w w' q
inside-damages w w' q i j h ne l = record {
  place = h;
  changed = λ e. ne (omega (arith, symbol-here w q, symbol-here w' q, l.mid, l.there));
  others = λ p n. ⊎_elim (λ lt. symbol-below w w' q p l.low lt) (λ r. ⊎_elim (λ e. absurd (n e)) (λ gt. symbol-top w w' q 1 p l.top (omega arith)) r) (lt-or-eq-or-gt p q);
}

-- a move across the boundary of the symbols at q and q + 1 leaves the others
across-keeps : (w w' q i j : ℕ) → Local w w' q 10 i j → (p : ℕ) → (p ≡ q → ⊥) → (p ≡ q + 1 → ⊥) → symbol_at w' p ≡ symbol_at w p
across-keeps w w' q i j l p n m =
    ⊎_elim (λ lt. symbol-below w w' q p l.low lt)
    (λ r. ⊎_elim (λ e. absurd (n e)) (λ gt. symbol-top w w' q 2 p l.top (above-two gt)) r) (lt-or-eq-or-gt p q)
  where
    above-two : q < p → q + 2 ≤ p
    above-two gt = ⊎_elim (λ e. absurd (m (sym e ∙ sym (add-one q)))) (λ h. omega arith) (eq-or-lt_of_le gt)

-- the two symbols, of the ten bits
low_of : (w q : ℕ) → symbol_at w q ≡ w / 2 ^ (5 * q) % 2 ^ 10 % 32
low_of w q = symbol-here w q ∙ sym (mod-mod-pow (w / 2 ^ (5 * q)) 5 5)

high-of : (w q : ℕ) → symbol_at w (q + 1) ≡ w / 2 ^ (5 * q) % 2 ^ 10 / 32
unfolding symbol_at
high-of w q = symbol-above w q 1 ∙ sym (field (w / 2 ^ (5 * q)) 5 5)

ten-bits : (w q : ℕ) → w / 2 ^ (5 * q) % 2 ^ 10 ≡ symbol_at w (q + 1) * 32 + symbol_at w q
ten-bits w q = sym (split (w / 2 ^ (5 * q) % 2 ^ 10) 5) ∙ rw (high-of w q, low_of w q)

-- ---- nibbles that turn

-- two nibbles turn only if neither symbol is kept
both-change : (w w' : ℕ) (t : Turned w w') → (symbol_at w' t.place ≡ symbol_at w t.place) ⊎ (symbol_at w' (t.place + 1) ≡ symbol_at w (t.place + 1)) → ⊥
both-change w w' t (inl e) = turn_low t.row (ap nibble_of e)
both-change w w' t (inr e) = turn-high t.row (ap nibble_of e)

damage-turns-none : (w w' q : ℕ) → Damaged w w' q → Turned w w' → ⊥
damage-turns-none w w' q d t =
    ⊎_elim
    (λ e. both-change w w' t (inr (d.others (t.place + 1) (λ f. omega arith))))
    (λ n. both-change w w' t (inl (d.others t.place n)))
    (equal_or_not t.place q)

across-turns-there : (w w' q i j : ℕ) → Local w w' q 10 i j → (t : Turned w w') → t.place ≡ q
across-turns-there w w' q i j l t =
    ⊎_elim (λ e. e)
    (λ n. absurd
    (⊎_elim
    (λ e. both-change w w' t (inr (across-keeps w w' q i j l (t.place + 1) (λ f. omega arith) (λ f. omega arith))))
    (λ m. both-change w w' t (inl (across-keeps w w' q i j l t.place n m)))
    (equal_or_not t.place (q + 1))))
    (equal_or_not t.place q)

-- ---- what is taken

-- a word decodes to a value exactly if neighbouring nibbles have turned
abbrev pub TakenIfTurned : ℕ → ℕ → Type 0
TakenIfTurned v w' = (Turned (reply_word v) w' × Formed v (word_value w') w') ⊎ ((Turned (reply_word v) w' → ⊥) × Undecoded (decode_word w'))

good_left : (c d s : ℕ) → T (good c d s) → c ≡ 255 → ⊥
unfolding good
good_left c d s t e = rw (eq-eqb c 255 e) at t

good_right : (c d s : ℕ) → T (good c d s) → d ≡ 255 → ⊥
unfolding good
good_right c d s t e = rw (eq-eqb d 255 e) at (both_right (pick (eqb c 255) false true) (both (pick (eqb d 255) false true) (eqb (bit_xor c d) s)) t)

good-xor : (c d s : ℕ) → T (good c d s) → bit_xor c d ≡ s
unfolding good
good-xor c d s t =
    eqb→eq (bit_xor c d) s
    (both_right (pick (eqb d 255) false true) (eqb (bit_xor c d) s) (both_right (pick (eqb c 255) false true) (both (pick (eqb d 255) false true) (eqb (bit_xor c d) s)) t))

good_of : (c d s : ℕ) → (c ≡ 255 → ⊥) → (d ≡ 255 → ⊥) → bit_xor c d ≡ s → T (good c d s)
unfolding good
good_of c d s nc nd e = rw (ne_eqb c 255 nc, ne_eqb d 255 nd, eq-eqb (bit_xor c d) s e) tt

turned_same : {a b c d c' d' : ℕ} → Turns a b c d → c' ≡ c → d' ≡ d → Turns a b c' d'
turned_same t e f = rw (e, f) t

module _ (v w' q i j : ℕ) (h : q < 3) (l : Local (reply_word v) w' q 10 i j) (crossed : Crossed i j) where
  -- the ten bits are those of two nibbles' symbols
  bits : reply_word v / 2 ^ (5 * q) % 2 ^ 10 ≡ symbol_of (reply_nibble v (q + 1)) * 32 + symbol_of (reply_nibble v q)
  bits = ten-bits (reply_word v) q ∙ rw (reply-symbol v (q + 1) (omega arith), reply-symbol v q (omega arith))

  new-high : symbol_at w' (q + 1) ≡ (reply_word v / 2 ^ (5 * q) % 2 ^ 10 + 2 ^ j - 2 ^ i) / 32
  new-high = high-of w' q ∙ ap (λ (n : ℕ). n / 32) l.mid

  new-low : symbol_at w' q ≡ (reply_word v / 2 ^ (5 * q) % 2 ^ 10 + 2 ^ j - 2 ^ i) % 32
  new-low = low_of w' q ∙ ap (λ (n : ℕ). n % 32) l.mid

  same : good (nibble_at w' (q + 1)) (nibble_at w' q) (bit_xor (reply_nibble v (q + 1)) (reply_nibble v q))
      ≡ turning (reply_nibble v (q + 1)) (reply_nibble v q) (nibble_at w' (q + 1)) (nibble_at w' q)
  same =
      rw (new-high, new-low)
      (crossed (reply_nibble v (q + 1)) (reply_nibble v q) (reply_word v / 2 ^ (5 * q) % 2 ^ 10) (nibble-lt v (q + 1)) (nibble-lt v q) bits l.one l.none)

  others : (p : ℕ) → p < 4 → (p ≡ q → ⊥) → (p ≡ q + 1 → ⊥) → nibble_at w' p ≡ reply_nibble v p
  others p lt n m = kept v w' p lt (across-keeps (reply_word v) w' q i j l p n m)

  turns-here : Turned (reply_word v) w' → T (turning (reply_nibble v (q + 1)) (reply_nibble v q) (nibble_at w' (q + 1)) (nibble_at w' q))
  turns-here t =
      let e = across-turns-there (reply_word v) w' q i j l t in
      let s : Turns (nibble_at (reply_word v) (q + 1)) (nibble_at (reply_word v) q) (nibble_at w' (q + 1)) (nibble_at w' q) =
      subst (λ (p : ℕ). Turns (nibble_at (reply_word v) (p + 1)) (nibble_at (reply_word v) p) (nibble_at w' (p + 1)) (nibble_at w' p)) e t.row in
      turning-of (rw (reply-nibble v (q + 1) (omega arith), reply-nibble v q (omega arith)) at s)

  turned-bool : Bool
  turned-bool = turning (reply_nibble v (q + 1)) (reply_nibble v q) (nibble_at w' (q + 1)) (nibble_at w' q)

  good-bool : Bool
  good-bool = good (nibble_at w' (q + 1)) (nibble_at w' q) (bit_xor (reply_nibble v (q + 1)) (reply_nibble v q))

  no-mark : T good-bool → (p : ℕ) → p < 4 → nibble_at w' p ≡ 255 → ⊥
  unfolding good-bool
  no-mark g p lt e =
      ⊎_elim (λ here. good_right (nibble_at w' (q + 1)) (nibble_at w' q) _ g (subst (λ (n : ℕ). nibble_at w' n ≡ 255) here e))
      (λ n. ⊎_elim (λ here. good_left (nibble_at w' (q + 1)) (nibble_at w' q) _ g (subst (λ (n : ℕ). nibble_at w' n ≡ 255) here e))
      (λ m. let k = others p lt n m in omega (arith, nibble-lt v p))
      (equal_or_not p (q + 1))) (equal_or_not p q)

  -- the start edge stays
  start : w' / 2 ^ 20 ≡ 1
  start =
      let d = 10 - 5 * q in
      let e : 5 * q + (10 + d) ≡ 20 = omega arith in
      subst (λ (k : ℕ). w' / 2 ^ k ≡ reply_word v / 2 ^ k) e
      (sym (shr-shr w' (5 * q) (10 + d)) ∙ sym (shr-shr (w' / 2 ^ (5 * q)) 10 d)
      ∙ ap (λ (k : ℕ). k / 2 ^ d) l.top
      ∙ shr-shr (reply_word v / 2 ^ (5 * q)) 10 d ∙ shr-shr (reply_word v) (5 * q) (10 + d))
      ∙ start-edge v

  -- if the nibbles turn, the word is that of a value
  when-turned : T turned-bool → Turned (reply_word v) w' × Formed v (word_value w') w'
  unfolding turned-bool good-bool
  when-turned t =
      let g : T good-bool = subst T (sym same) t in
      let n = no-mark g in
      let x : xor_of (nibble_at w') ≡ 15 =
      pair_keeps (nibble_at w') (reply_nibble v) (small-nibbles w' n) (λ p lt. nibble-lt v p) q h others (good-xor (nibble_at w' (q + 1)) (nibble_at w' q) _ g) ∙ nibbles-xor v in
      let small = small-nibbles w' n in
      let turns = turns-of (reply_nibble v (q + 1)) (reply_nibble v q) (nibble_at w' (q + 1)) (nibble_at w' q) t in
      let nibble = value-nibble w' start small x in (
        record { place = q; within = h; row = rw (reply-nibble v (q + 1) (omega arith), reply-nibble v q (omega arith)) turns },
        record {
          small = value-lt w' start small x;
          word = word-again w' start small x;
          value = record {
            place = q;
            within = h;
            row = turned_same turns (nibble (q + 1) (omega arith)) (nibble q (omega arith));
            others = λ p lt m k. nibble p lt ∙ others p lt m k;
          };
        },
      )

  -- if they do not, the word does not decode
  when-not : (T turned-bool → ⊥) → (Turned (reply_word v) w' → ⊥) × Undecoded (decode_word w')
  unfolding turned-bool good-bool decode_word
  when-not out = (
    λ t. out (turns-here t),
    not_taken (nibble_at w')
        (λ n e. out (subst T same
        (good_of (nibble_at w' (q + 1)) (nibble_at w' q) (bit_xor (reply_nibble v (q + 1)) (reply_nibble v q)) (n (q + 1) (omega arith)) (n q (omega arith))
        (pair-settled (nibble_at w') (reply_nibble v) (small-nibbles w' n) (λ p lt. nibble-lt v p) q h others (e ∙ sym (nibbles-xor v)))))),
  )

  across : TakenIfTurned v w'
  across = go turned-bool refl
    where
      go : (t : Bool) → turned-bool ≡ t → TakenIfTurned v w'
      go true e = inl (when-turned (subst T (sym e) tt))
      go false e = inr (when-not (λ t. subst T e t))

-- a move inside one symbol
within : (v w' q i j : ℕ) → q < 4 → (2 ^ i ≡ 2 ^ j → ⊥) → Local (reply_word v) w' q 5 i j → TakenIfTurned v w'
within v w' q i j h ne l =
    let d = inside-damages (reply_word v) w' q i j h ne l in
    inr (damage-turns-none (reply_word v) w' q d, damaged v w' q d)

up-differs : (r : ℕ) → 2 ^ r ≡ 2 ^ (r + 1) → ⊥
up-differs r e = omega (arith, pow-add 2 r 1, pow_pos r)

-- an edge at bit i of the symbol at q goes to bit j beside it
module _ (v w' q : ℕ) where
  abbrev Goes : ℕ → ℕ → Type 0
  Goes i j = (w' + 2 ^ (5 * q + i) ≡ reply_word v + 2 ^ (5 * q + j)) × (bit (reply_word v) (5 * q + i) ≡ 1) × (bit (reply_word v) (5 * q + j) ≡ 0)

  moved_up : (r : ℕ) → r < 5 → 5 * q + r + 1 < 20 → Goes r (r + 1) → TakenIfTurned v w'
  moved_up r hr lt g =
      ⊎_elim
      (λ h. within v w' q r (r + 1) (omega arith) (up-differs r)
      (local (reply_word v) w' q 5 r (r + 1) (omega arith) (omega arith) (inside r (r + 1) (omega arith) (omega arith)) g.0 g.1 g.2))
      (λ h. let f : r ≡ 4 = omega arith in let k : Goes 4 5 = subst (λ (n : ℕ). Goes n (n + 1)) f g in
      across v w' q 4 5 (omega arith) (local (reply_word v) w' q 10 4 5 (omega arith) (omega arith) across-up k.0 k.1 k.2) crossed-up)
      (lt-or-ge r 4)

  moved_down : (r : ℕ) → r < 5 → 5 * q + r + 1 < 20 → Goes (r + 1) r → TakenIfTurned v w'
  moved_down r hr lt g =
      ⊎_elim
      (λ h. within v w' q (r + 1) r (omega arith) (λ e. up-differs r (sym e))
      (local (reply_word v) w' q 5 (r + 1) r (omega arith) (omega arith) (inside (r + 1) r (omega arith) (omega arith)) g.0 g.1 g.2))
      (λ h. let f : r ≡ 4 = omega arith in let k : Goes 5 4 = subst (λ (n : ℕ). Goes (n + 1) n) f g in
      across v w' q 5 4 (omega arith) (local (reply_word v) w' q 10 5 4 (omega arith) (omega arith) across-down k.0 k.1 k.2) crossed-down)
      (lt-or-ge r 4)

-- the bits' places, counted from the symbol that the lower of the two is in
goes : (v w' q i j i' j' : ℕ) → i ≡ 5 * q + i' → j ≡ 5 * q + j' → Moved (reply_word v) w' i j → Goes v w' q i' j'
goes v w' q i j i' j' p r m = (rw (p, r) at m.moved, rw p at m.edge, rw r at m.free)

pub moved-decode : (v w' i j : ℕ) → Moved (reply_word v) w' i j → TakenIfTurned v w'
moved-decode v w' i j m =
    ⊎_elim
    (λ e. moved_up v w' (i / 5) (i % 5) (omega arith) (omega (arith, m.to)) (goes v w' (i / 5) i j (i % 5) (i % 5 + 1) (omega arith) (omega arith) m))
    (λ e. moved_down v w' (j / 5) (j % 5) (omega arith) (omega (arith, m.from)) (goes v w' (j / 5) i j (j % 5 + 1) (j % 5) (omega arith) (omega arith) m))
    m.beside
