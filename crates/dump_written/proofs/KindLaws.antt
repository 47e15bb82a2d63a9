-- The kinds of the words that a written dump has: a number's digits read back as that number, so `#` and digits are a time; a level and `!` are a change.
-- Assumes nothing.
use mathlib.Core.Path.{◌≡◌, refl, sym, ap, ◌∙◌}
use mathlib.Core.Logic.{⊎_elim}
use mathlib.Core.Bool.{Bool, true, true≢false}
use mathlib.Core.List.{[], ◌∷◌, ◌++◌}
use Prim.Native.Nat.{ℕ, zero, suc, ◌+◌, ◌-◌, ◌*◌, ◌/◌, ◌%◌, ◌^◌, ◌≤◌, ◌<◌}
use native.Mathlib.Nat.{pow-suc, lt_trans}
use native.Mathlib.Omega.{arith}
use lib.Dec.{eqb, eqb→eq, ltb, lit<}
use borrow.Author.Tests.{lt-ltb, le-ltb, le-leb, ltb-false, leb-true}
use Rattle.dshot_reply_spec.proofs.Cases.{lt-or-ge}
use Rattle.dshot_reply_spec.proofs.Choice.{not_first}
use Rattle.dshot_reply_spec.proofs.Table.{at}
use Rattle.dshot_reply_spec.specs.Answer.{given}
use Rattle.capture_file.specs.Line.{digit, decimal_within}
use Rattle.dump_spec.specs.Words.{Word, some, all, is_printable, is_code}
use Rattle.dump_spec.specs.Numbers.{is_digit, value_from, is_number, time_limit, number_of}
use Rattle.dump_spec.specs.Kinds as K
use Rattle.dump_spec.specs.Kinds.{is_value, level_of, kind_of, time_kind}
use Rattle.dump_spec.proofs.Choices.{on, both}

-- ---- digits

-- a decimal digit as a byte
digit-byte : (d : ℕ) → d < 10 → digit d ≡ 48 + d
unfolding digit
digit-byte d h = eqb→eq (digit d) (48 + d) (at (λ n. eqb (digit n) (48 + n)) 10 tt d h)

byte-digit : (b : ℕ) → 48 ≤ b → b ≤ 57 → is_digit b ≡ true
unfolding is_digit
byte-digit b l h = rw (le-ltb b 48 l, le-leb b 57 h)

is_digit-digit : (d : ℕ) → d < 10 → is_digit (digit d) ≡ true
is_digit-digit d h = let e = digit-byte d h in byte-digit (digit d) (omega arith) (omega arith)

-- one digit more
all_more : (p : ℕ → Bool) (w : Word) (b : ℕ) → all p w ≡ true → p b ≡ true → all p (w ++ (b ∷ [])) ≡ true
all_more p [] b a e = on _ _ e
all_more p (c ∷ w) b a e = let h = both (p c) (all p w) a in on _ _ h.0 ∙ all_more p w b h.1 e

value-more : (v : ℕ) (w : Word) (b : ℕ) → value_from v (w ++ (b ∷ [])) ≡ value_from v w * 10 + (b - 48)
value-more v [] b = refl
value-more v (c ∷ w) b = value-more (v * 10 + (c - 48)) w b

some_more : (w : Word) (b : ℕ) → some (w ++ (b ∷ [])) ≡ true
some_more [] b = refl
some_more (c ∷ w) b = refl

-- ---- the digits of a number

-- a word of digits, and their value
record Reads (w : Word) (x : ℕ) : Type 0 where
  full : some w ≡ true
  digits : all is_digit w ≡ true
  value : value_from 0 w ≡ x

one-reads : (x : ℕ) → x < 10 → Reads (digit x ∷ []) x
one-reads x h = record { full = refl; digits = on _ _ (is_digit-digit x h); value = omega (arith, digit-byte x h) }

more-reads : (w : Word) (x : ℕ) → Reads w (x / 10) → Reads (w ++ (digit (x % 10) ∷ [])) x
more-reads w x r =
    let l : x % 10 < 10 = omega arith in
    record {
      full = some_more w (digit (x % 10));
      digits = all_more is_digit w (digit (x % 10)) r.digits (is_digit-digit (x % 10) l);
      value = value-more 0 w (digit (x % 10)) ∙ omega (arith, digit-byte (x % 10) l, r.value);
    }

within-reads : (n x : ℕ) → x < 10 ^ suc n → Reads (decimal_within (suc n) x) x
unfolding decimal_within
within-reads zero x h = let l : x < 10 = omega arith in rw (lt-ltb x 10 l) (one-reads x l)
within-reads (suc n) x h =
    ⊎_elim
    (λ l. rw (lt-ltb x 10 l) (one-reads x l))
    (λ g. rw (le-ltb x 10 g) (more-reads _ x (within-reads n (x / 10) (omega (arith, pow-suc 10 (suc n))))))
    (lt-or-ge x 10)

-- ---- the words of a change

digit-printable : (b : ℕ) → is_digit b ≡ true → is_printable b ≡ true
unfolding is_digit is_printable
digit-printable b e =
    let h = not_first (ltb b 48) e (λ f. true≢false (sym f)) in
    let l = ltb-false b 48 h.0 in
    let m = leb-true b 57 h.1 in
    rw (le-ltb b 33 (omega arith), le-leb b 126 (omega arith))

digits-printable : (w : Word) → all is_digit w ≡ true → all is_printable w ≡ true
digits-printable [] a = refl
digits-printable (b ∷ w) a =
    let h = both (is_digit b) (all is_digit w) a in on _ _ (digit-printable b h.0) ∙ digits-printable w h.1

module _ (t : ℕ) (small : t < 10 ^ 14) where
  pub time-code : is_code (35 ∷ decimal_within 14 t) ≡ true
  unfolding is_code is_printable
  time-code = digits-printable (decimal_within 14 t) (within-reads 13 t small).digits

  reads-number : number_of (decimal_within 14 t) ≡ given t
  unfolding number_of is_number
  reads-number =
      let r = within-reads 13 t small in
      let l : t < time_limit = lt_trans small (lit< tt) in
      rw (r.full, r.digits, r.value, lt-ltb t time_limit l)

  pub time-kind : kind_of (35 ∷ decimal_within 14 t) ≡ K.time t
  unfolding kind_of
  time-kind = ap time_kind reads-number ∙ on _ _ (lt-ltb t time_limit (lt_trans small (lit< tt)))

pub change-code : (l : ℕ) → l ≤ 1 → is_code (digit l ∷ 33 ∷ []) ≡ true
unfolding is_code is_printable digit
change-code zero h = refl
change-code (suc zero) h = refl
change-code (suc (suc l)) h = absurd (omega arith)

pub change-kind : (l : ℕ) → l ≤ 1 → kind_of (digit l ∷ 33 ∷ []) ≡ K.change l (33 ∷ [])
unfolding kind_of is_value is_code is_printable level_of digit
change-kind zero h = refl
change-kind (suc zero) h = refl
change-kind (suc (suc l)) h = absurd (omega arith)
