-- The automaton of indices accepts just the syntax of indices: `automaton-is-syntax`.
-- Assumes nothing.
use mathlib.Core.Path.{◌≡◌, refl, sym, ap, ◌∙◌, subst}
use mathlib.Core.Logic.{◌⊎◌, inl, inr, ⊎_elim, ◌↔◌}
use mathlib.Core.Bool.{Bool, true, false, true≢false}
use mathlib.Core.List.{List, [], ◌∷◌, ◌++◌, map}
use Prim.Native.Nat.{ℕ}
use native.Mathlib.Omega.{arith}
use lib.Dec.{eqb, ltb}
use borrow.Author.Tests.{eqb-true, ne_eqb, ltb-false}
use Rattle.dshot_reply_spec.specs.Answer.{pick}
use Rattle.dshot_reply_spec.specs.Ascii.{ascii}
use Rattle.dshot_reply_spec.proofs.Choice.{not_first}
use Rattle.dump_spec.specs.Words.{Word}
use Rattle.dump_spec.specs.Numbers.{is_digit}
use Rattle.dump_spec.specs.Names as N
use Rattle.dump_spec.specs.Names.{Part, after_number, index_byte, word_ends, index_word, is_outside}
use Rattle.dump_spec.specs.Brackets as B
use Rattle.dump_spec.specs.Brackets.{Symbol, byte, gap, symbols_of, Gaps, Digits, Number, Group, Groups, index_words}
use Rattle.dump_spec.proofs.Choices.{on, off}

-- ---- the automaton over symbols

abbrev step : Part → Symbol → Part
step p (byte b) = index_byte p b
step p gap = word_ends p

abbrev run : Part → List Symbol → Part
run p [] = p
run p (x ∷ s) = run (step p x) s

word-run : (p : Part) (w : Word) (s : List Symbol) → run p (map byte w ++ (gap ∷ s)) ≡ run (index_word p w) s
word-run p [] s = refl
word-run p (b ∷ w) s = word-run (index_byte p b) w s

words-run : (p : Part) (ws : List Word) → run p (symbols_of ws) ≡ index_words p ws
words-run p [] = refl
words-run p (w ∷ ws) = word-run p w (symbols_of ws) ∙ words-run (index_word p w) ws

-- ---- what has a derivation is accepted

gaps-run : (p : Part) → word_ends p ≡ p → {s r : List Symbol} → Gaps s r → run p s ≡ run p r
gaps-run p e B.none = refl
gaps-run p e {r} (B.more {s} g) = ap (λ (q : Part). run q s) e ∙ gaps-run p e g

-- How the automaton reads one number of a group: where it starts, after a minus, among the digits and after them; and where a byte after the number leads.
record Half (start sign inside past : Part) (close : ℕ → Part) : Type 0 where
  start-byte : (b : ℕ) → index_byte start b ≡ pick (eqb b 45) sign (pick (is_digit b) inside N.wrong)
  sign-byte : (b : ℕ) → index_byte sign b ≡ pick (is_digit b) inside N.wrong
  inside-byte : (b : ℕ) → index_byte inside b ≡ pick (is_digit b) inside (close b)
  past-byte : (b : ℕ) → index_byte past b ≡ close b
  start-gap : word_ends start ≡ start
  inside-gap : word_ends inside ≡ past
  past-gap : word_ends past ≡ past

-- after the second number of a group
abbrev after_last : ℕ → Part
after_last b = pick (eqb b 93) N.outside N.wrong

first : Half N.before N.minus N.digits N.after after_number
first = record {
  start-byte = λ b. refl;
  sign-byte = λ b. refl;
  inside-byte = λ b. refl;
  past-byte = λ b. refl;
  start-gap = refl;
  inside-gap = refl;
  past-gap = refl;
}

second : Half N.last_before N.last_minus N.last_digits N.last_after after_last
second = record {
  start-byte = λ b. refl;
  sign-byte = λ b. refl;
  inside-byte = λ b. refl;
  past-byte = λ b. refl;
  start-gap = refl;
  inside-gap = refl;
  past-gap = refl;
}

digit-no-minus : (b : ℕ) → is_digit b ≡ true → eqb b 45 ≡ false
unfolding is_digit
digit-no-minus b e = let l = ltb-false b 48 (not_first (ltb b 48) e (λ f. true≢false (sym f))).0 in ne_eqb b 45 (λ z. omega arith)

module _ {start sign inside past : Part} {close : ℕ → Part} (h : Half start sign inside past close) where
  digits-run : (p : Part) → ((b : ℕ) → is_digit b ≡ true → index_byte p b ≡ inside) → {s r : List Symbol} → Digits s r → run p s ≡ run inside r
  digits-run p f (B.one {b} {s} e) = ap (λ (q : Part). run q s) (f b e)
  digits-run p f (B.more {b} {s} e d) =
      ap (λ (q : Part). run q s) (f b e) ∙ digits-run inside (λ c g. h.inside-byte c ∙ on _ _ g) d

  number-run : {s r : List Symbol} → Number s r → run start s ≡ run inside r
  number-run (B.plain d) = digits-run start (λ b e. h.start-byte b ∙ off _ _ (digit-no-minus b e) ∙ on _ _ e) d
  number-run (B.minus {s} d) = ap (λ (q : Part). run q s) (h.start-byte 45) ∙ digits-run sign (λ b e. h.sign-byte b ∙ on _ _ e) d

  inside-run : {s t : List Symbol} → Gaps s t → (run inside s ≡ run inside t) ⊎ (run inside s ≡ run past t)
  inside-run B.none = inl refl
  inside-run (B.more {s} g) = inr (ap (λ (q : Part). run q s) h.inside-gap ∙ gaps-run past h.past-gap g)

  close-run : (b : ℕ) → is_digit b ≡ false → {s r : List Symbol} → Gaps s (byte b ∷ r) → run inside s ≡ run (close b) r
  close-run b e {s} {r} g =
      ⊎_elim
      (λ i. i ∙ ap (λ (q : Part). run q r) (h.inside-byte b ∙ off _ _ e))
      (λ i. i ∙ ap (λ (q : Part). run q r) (h.past-byte b))
      (inside-run g)

group-run : {s r : List Symbol} → Group s r → run N.outside s ≡ run N.outside r
unfolding after_number is_digit
group-run (B.single g n c) = gaps-run N.before refl g ∙ number-run first n ∙ close-run first 93 refl c
group-run (B.range g n c k m e) =
    gaps-run N.before refl g
    ∙ number-run first n
    ∙ close-run first 58 refl c
    ∙ gaps-run N.last_before refl k
    ∙ number-run second m
    ∙ close-run second 93 refl e

groups-run : {s : List Symbol} → Groups s → run N.outside s ≡ N.outside
groups-run (B.over g) = gaps-run N.outside refl g
groups-run (B.group g d gs) = gaps-run N.outside refl g ∙ group-run d ∙ groups-run gs

-- ---- what is accepted has a derivation

-- A number is due, or its digits are, and then what C says. Among digits there may be more of them.
abbrev NumberDue : (List Symbol → Type 0) → List Symbol → Type 0
NumberDue C s = (t : List Symbol) × (r : List Symbol) × Gaps s t × Number t r × C r

abbrev DigitsDue : (List Symbol → Type 0) → List Symbol → Type 0
DigitsDue C s = (r : List Symbol) × Digits s r × C r

abbrev Inside : (List Symbol → Type 0) → List Symbol → Type 0
Inside C s = DigitsDue C s ⊎ C s

-- after the second number of a group, and after the first
data AfterLast : List Symbol → Type 0 where
  closes : {s r : List Symbol} → Gaps s (byte 93 ∷ r) → Groups r → AfterLast s

data AfterFirst : List Symbol → Type 0 where
  closes : {s r : List Symbol} → Gaps s (byte 93 ∷ r) → Groups r → AfterFirst s
  goes : {s r : List Symbol} → Gaps s (byte 58 ∷ r) → NumberDue AfterLast r → AfterFirst s

-- what the symbols are that lead from a part to `outside`
abbrev Rest : Part → List Symbol → Type 0
Rest N.outside s = Groups s
Rest N.before s = NumberDue AfterFirst s
Rest N.minus s = DigitsDue AfterFirst s
Rest N.digits s = Inside AfterFirst s
Rest N.after s = AfterFirst s
Rest N.last_before s = NumberDue AfterLast s
Rest N.last_minus s = DigitsDue AfterLast s
Rest N.last_digits s = Inside AfterLast s
Rest N.last_after s = AfterLast s
Rest N.wrong s = ⊥

-- nothing is left
ends : (p : Part) → is_outside p ≡ true → Rest p []
ends N.outside e = B.over B.none
ends N.before e = absurd (true≢false (sym e))
ends N.minus e = absurd (true≢false (sym e))
ends N.digits e = absurd (true≢false (sym e))
ends N.after e = absurd (true≢false (sym e))
ends N.last_before e = absurd (true≢false (sym e))
ends N.last_minus e = absurd (true≢false (sym e))
ends N.last_digits e = absurd (true≢false (sym e))
ends N.last_after e = absurd (true≢false (sym e))
ends N.wrong e = absurd (true≢false (sym e))

-- ---- a gap more in front

groups-gap : {s : List Symbol} → Groups s → Groups (gap ∷ s)
groups-gap (B.over g) = B.over (B.more g)
groups-gap (B.group g d gs) = B.group (B.more g) d gs

last-gap : {s : List Symbol} → AfterLast s → AfterLast (gap ∷ s)
last-gap (closes g gs) = closes (B.more g) gs

first-gap : {s : List Symbol} → AfterFirst s → AfterFirst (gap ∷ s)
first-gap (closes g gs) = closes (B.more g) gs
first-gap (goes g n) = goes (B.more g) n

number-gap : {C : List Symbol → Type 0} {s : List Symbol} → NumberDue C s → NumberDue C (gap ∷ s)
number-gap (t, r, g, n, c) = (t, r, B.more g, n, c)

gap_back : (p : Part) (s : List Symbol) → Rest (word_ends p) s → Rest p (gap ∷ s)
gap_back N.outside s r = groups-gap r
gap_back N.before s r = number-gap r
gap_back N.minus s r = absurd r
gap_back N.digits s r = inr (first-gap r)
gap_back N.after s r = first-gap r
gap_back N.last_before s r = number-gap r
gap_back N.last_minus s r = absurd r
gap_back N.last_digits s r = inr (last-gap r)
gap_back N.last_after s r = last-gap r
gap_back N.wrong s r = absurd r

-- ---- a byte more in front

choose : {A : Type 0} (s : List Symbol) (b : Bool) (p q : Part) → (b ≡ true → Rest p s → A) → (b ≡ false → Rest q s → A) → Rest (pick b p q) s → A
choose s true p q f g r = f refl r
choose s false p q f g r = g refl r

-- a byte that a test found
found : (F : List Symbol → Type 0) (b n : ℕ) (s : List Symbol) → eqb b n ≡ true → F (byte n ∷ s) → F (byte b ∷ s)
found F b n s e = subst (λ (c : ℕ). F (byte c ∷ s)) (sym (eqb-true b n e))

opened : (s : List Symbol) → NumberDue AfterFirst s → Groups (byte 91 ∷ s)
opened s (t, r, g, n, closes c gs) = B.group B.none (B.single g n c) gs
opened s (t, r, g, n, goes c (v, w, k, m, closes e gs)) = B.group B.none (B.range g n c k m e) gs

first_back : (b : ℕ) (s : List Symbol) → Rest (after_number b) s → AfterFirst (byte b ∷ s)
unfolding after_number
first_back b s =
    choose s (eqb b 93) N.outside _
    (λ e gs. found AfterFirst b 93 s e (closes B.none gs))
    (λ _. choose s (eqb b 58) N.last_before N.wrong (λ e n. found AfterFirst b 58 s e (goes B.none n)) (λ _ r. absurd r))

last-back : (b : ℕ) (s : List Symbol) → Rest (after_last b) s → AfterLast (byte b ∷ s)
last-back b s = choose s (eqb b 93) N.outside N.wrong (λ e gs. found AfterLast b 93 s e (closes B.none gs)) (λ _ r. absurd r)

-- the parts of one number, and what follows it
module _ (C : List Symbol → Type 0) (sign inside : Part) (close : ℕ → Part) (b : ℕ) (s : List Symbol) (to-sign : Rest sign s → DigitsDue C s)
    (to_inside : Rest inside s → Inside C s) (to-close : Rest (close b) s → C (byte b ∷ s)) where
  digit-front : is_digit b ≡ true → Inside C s → DigitsDue C (byte b ∷ s)
  digit-front e (inl (r, d, c)) = (r, B.more e d, c)
  digit-front e (inr c) = (s, B.one e, c)

  sign-back : Rest (pick (is_digit b) inside N.wrong) s → DigitsDue C (byte b ∷ s)
  sign-back = choose s (is_digit b) inside N.wrong (λ e r. digit-front e (to_inside r)) (λ _ r. absurd r)

  inside_back : Rest (pick (is_digit b) inside (close b)) s → Inside C (byte b ∷ s)
  inside_back = choose s (is_digit b) inside (close b) (λ e r. inl (digit-front e (to_inside r))) (λ _ r. inr (to-close r))

  plain-number : DigitsDue C (byte b ∷ s) → NumberDue C (byte b ∷ s)
  plain-number (r, d, c) = (byte b ∷ s, r, B.none, B.plain d, c)

  minus_number : DigitsDue C s → NumberDue C (byte 45 ∷ s)
  minus_number (r, d, c) = (byte 45 ∷ s, r, B.none, B.minus d, c)

  start_back : Rest (pick (eqb b 45) sign (pick (is_digit b) inside N.wrong)) s → NumberDue C (byte b ∷ s)
  start_back =
      choose s (eqb b 45) sign _ (λ e r. found (NumberDue C) b 45 s e (minus_number (to-sign r))) (λ _ r. plain-number (sign-back r))

byte-back : (p : Part) (b : ℕ) (s : List Symbol) → Rest (index_byte p b) s → Rest p (byte b ∷ s)
byte-back N.outside b s r = choose s (eqb b 91) N.before N.wrong (λ e n. found Groups b 91 s e (opened s n)) (λ _ r. absurd r) r
byte-back N.before b s r = start_back AfterFirst N.minus N.digits after_number b s (λ x. x) (λ x. x) (first_back b s) r
byte-back N.minus b s r = sign-back AfterFirst N.minus N.digits after_number b s (λ x. x) (λ x. x) (first_back b s) r
byte-back N.digits b s r = inside_back AfterFirst N.minus N.digits after_number b s (λ x. x) (λ x. x) (first_back b s) r
byte-back N.after b s r = first_back b s r
byte-back N.last_before b s r = start_back AfterLast N.last_minus N.last_digits after_last b s (λ x. x) (λ x. x) (last-back b s) r
byte-back N.last_minus b s r = sign-back AfterLast N.last_minus N.last_digits after_last b s (λ x. x) (λ x. x) (last-back b s) r
byte-back N.last_digits b s r = inside_back AfterLast N.last_minus N.last_digits after_last b s (λ x. x) (λ x. x) (last-back b s) r
byte-back N.last_after b s r = last-back b s r
byte-back N.wrong b s r = absurd r

run-derives : (p : Part) (s : List Symbol) → run p s ≡ N.outside → Rest p s
run-derives p [] e = ends p (ap is_outside e)
run-derives p (byte b ∷ s) e = byte-back p b s (run-derives (index_byte p b) s e)
run-derives p (gap ∷ s) e = gap_back p s (run-derives (word_ends p) s e)

-- ---- both

pub automaton-is-syntax : (ws : List Word) → (index_words N.outside ws ≡ N.outside) ↔ Groups (symbols_of ws)
automaton-is-syntax ws =
    let e = words-run N.outside ws in
    (λ h. run-derives N.outside (symbols_of ws) (e ∙ h), λ d. sym e ∙ groups-run d)

-- ---- examples, by computing

pub some-derived : (index_words N.outside (map ascii ("[3]" ∷ [])) ≡ N.outside)
    × (index_words N.outside (map ascii ("[3][-1" ∷ ":" ∷ "0" ∷ "]" ∷ "[12:7]" ∷ [])) ≡ N.outside)
unfolding is_digit after_number
some-derived = (refl, refl)

-- no number, a letter, two numbers without a colon, a gap after a minus, a third number
pub some-wrong : (index_words N.outside (map ascii ("[]" ∷ [])) ≡ N.wrong) × (index_words N.outside (map ascii ("[a]" ∷ [])) ≡ N.wrong)
    × (index_words N.outside (map ascii ("[1" ∷ "2]" ∷ [])) ≡ N.wrong) × (index_words N.outside (map ascii ("[-" ∷ "3]" ∷ [])) ≡ N.wrong)
    × (index_words N.outside (map ascii ("[1:2:3]" ∷ [])) ≡ N.wrong)
unfolding is_digit after_number
some-wrong = (refl, refl, refl, refl, refl)

-- a bracket that stays open
pub some-open : index_words N.outside (map ascii ("[3" ∷ ":" ∷ [])) ≡ N.last_before
unfolding is_digit after_number
some-open = refl
