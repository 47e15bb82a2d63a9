-- Each field of a bank in its slots. What is written for it is read back, and is such as the library writes. What is read fits. If the library wrote
-- slots, they are what it writes for what is read from them.
-- Assumes nothing.
use mathlib.Core.Path.{◌≡◌, ◌∙◌, refl, sym, ap, subst}
use mathlib.Core.Bool.{Bool, true, false, true≢false}
use mathlib.Core.List.{List, [], ◌∷◌}
use mathlib.Core.Option.{Option, none, some}
use Prim.Native.Nat.{ℕ, zero, suc, ◌+◌, ◌-◌, ◌*◌, ◌/◌, ◌%◌, ◌^◌, ◌<◌, ◌≤◌, min}
use native.Mathlib.Nat.{mod-eq_of_lt}
use native.Mathlib.Omega.{arith}
use lib.Arith.{digits_div, digits_mod}
use lib.Dec.{eqb, ltb, leb}
use lib.ListN.{length, get_or}
use borrow.Author.Tests.{ltb-true, ltb-false, leb-true, eqb-true, eqb-false, lt-ltb, le-ltb, le-leb, ne_eqb}
use Rattle.dshot_reply_spec.specs.Answer.{Answer, given, refused, pick}
use Rattle.dshot_reply_spec.specs.Refusals.{no_reply}
use Rattle.dshot_reply_spec.specs.Value.{Reading, erpm, temp, volt, amp, debug, state, edt}
use Rattle.dshot_reply_spec.specs.Kind.{debug_kind}
use Rattle.dshot_spec.specs.Command.{CommandRun}
use Rattle.dshot_bank_spec.specs.State.{MotorRun, lease_of}
use Rattle.dshot_bank_spec.proofs.LaneLaws.{on, off}
use Rattle.bank_slots_spec.specs.Memory.{word, long}
use Rattle.bank_slots_spec.specs.Load.{flag, choice, REFUSED, is_refused_kind, reply, four}
use Rattle.bank_slots_spec.specs.Store.{bit, choice_slot, lease_number, reply_kind, reply_number, run_motor, of_run}
use Rattle.bank_slots_spec.specs.Written.{is_flag, is_choice, is_run, is_reply}
use Rattle.bank_slots_spec.specs.Storable.{ChoiceFits, LeaseFits, RunFits, SequenceFits, ReplyFits}
use Rattle.bank_slots_spec.proofs.MemoryLaws.{both}

-- ---- flags

pub flag-back : (b : Bool) → flag (bit b) ≡ b
flag-back true = refl
flag-back false = refl

pub flag-written : (b : Bool) → is_flag (bit b) ≡ true
flag-written true = refl
flag-written false = refl

pub flag-kept : (n : ℕ) → is_flag n ≡ true → n ≡ bit (flag n)
flag-kept zero h = refl
flag-kept (suc zero) h = refl
flag-kept (suc (suc n)) h = absurd (omega (arith, ltb-true (suc (suc n)) 2 h))

-- ---- four of something

pub four-back : {A : Type 0} (d : A) (l : List A) → length l ≡ 4 → four (λ (i : ℕ). get_or l i d) ≡ l
four-back d [] h = absurd (omega arith)
four-back d (a ∷ []) h = absurd (omega arith)
four-back d (a ∷ b ∷ []) h = absurd (omega arith)
four-back d (a ∷ b ∷ c ∷ []) h = absurd (omega arith)
four-back d (a ∷ b ∷ c ∷ e ∷ []) h = refl
four-back d (a ∷ b ∷ c ∷ e ∷ f ∷ l) h = absurd (omega arith)

-- ---- numbers of 32 and of 64 bits

module _ (k : ℕ) (m : ℕ → ℕ) (low : (i : ℕ) → m i < 65536) where
  pub word_low : m k ≡ word k m % 65536
  word_low = sym (digits_mod (m (k + 1)) (low k))

  pub word-high : m (k + 1) ≡ word k m / 65536
  word-high = sym (digits_div (m (k + 1)) (low k))

-- a number of 64 bits from its four slots
abbrev pub long_of : ℕ → ℕ
long_of n = n % 65536 + 65536 * (n / 65536 % 65536) + 4294967296 * (n / 65536 / 65536 % 65536) + 281474976710656 * (n / 65536 / 65536 / 65536 % 65536)

pub long-back : (n : ℕ) → n < 2 ^ 64 → long_of n ≡ n
long-back n h = omega arith

module _ (k : ℕ) (m : ℕ → ℕ) (low : (i : ℕ) → m i < 65536) where
  whole : long k m ≡ ((m (k + 3) * 65536 + m (k + 2)) * 65536 + m (k + 1)) * 65536 + m k
  whole = omega arith

  pub long-fits : long k m < 2 ^ 64
  long-fits = omega (arith, low k, low (k + 1), low (k + 2), low (k + 3))

  up1 : long k m / 65536 ≡ (m (k + 3) * 65536 + m (k + 2)) * 65536 + m (k + 1)
  up1 = ap (λ (n : ℕ). n / 65536) whole ∙ digits_div ((m (k + 3) * 65536 + m (k + 2)) * 65536 + m (k + 1)) (low k)

  up2 : long k m / 65536 / 65536 ≡ m (k + 3) * 65536 + m (k + 2)
  up2 = ap (λ (n : ℕ). n / 65536) up1 ∙ digits_div (m (k + 3) * 65536 + m (k + 2)) (low (k + 1))

  up3 : long k m / 65536 / 65536 / 65536 ≡ m (k + 3)
  up3 = ap (λ (n : ℕ). n / 65536) up2 ∙ digits_div (m (k + 3)) (low (k + 2))

  pub long-0 : m k ≡ long k m % 65536
  long-0 = sym (ap (λ (n : ℕ). n % 65536) whole ∙ digits_mod ((m (k + 3) * 65536 + m (k + 2)) * 65536 + m (k + 1)) (low k))

  pub long-1 : m (k + 1) ≡ long k m / 65536 % 65536
  long-1 = sym (ap (λ (n : ℕ). n % 65536) up1 ∙ digits_mod (m (k + 3) * 65536 + m (k + 2)) (low (k + 1)))

  pub long-2 : m (k + 2) ≡ long k m / 65536 / 65536 % 65536
  long-2 = sym (ap (λ (n : ℕ). n % 65536) up2 ∙ digits_mod (m (k + 3)) (low (k + 2)))

  pub long-3 : m (k + 3) ≡ long k m / 65536 / 65536 / 65536 % 65536
  long-3 = sym (ap (λ (n : ℕ). n % 65536) up3 ∙ mod-eq_of_lt (low (k + 3)))

-- ---- leases

lease-number : (l : Option ℕ) → LeaseFits l → lease_number l < 2 ^ 64
lease-number none h = omega arith
lease-number (some n) h = h

lease-same : (l : Option ℕ) → lease_of (lease_number l) ≡ l
lease-same none = refl
lease-same (some n) = sym (off none (some (n + 1 - 1)) (ne_eqb (n + 1) 0 (λ e. omega arith)) (ap some (omega arith)))

pub lease-back : (l : Option ℕ) → LeaseFits l → lease_of (long_of (lease_number l)) ≡ l
lease-back l h = ap lease_of (long-back (lease_number l) (lease-number l h)) ∙ lease-same l

lease-some : (n : ℕ) → lease_of (suc n) ≡ some (suc n - 1)
lease-some n = sym (off none (some (suc n - 1)) (ne_eqb (suc n) 0 (λ e. omega arith)) refl)

pub lease-kept : (n : ℕ) → n ≡ lease_number (lease_of n)
lease-kept zero = refl
lease-kept (suc n) = subst (λ (o : Option ℕ). suc n ≡ lease_number o) (sym (lease-some n)) (omega arith)

pub lease-fits : (n : ℕ) → n < 2 ^ 64 → LeaseFits (lease_of n)
lease-fits zero h = tt
lease-fits (suc n) h = subst LeaseFits (sym (lease-some n)) (omega arith)

-- ---- a motor or none

choice-some : (n : ℕ) → choice (n + 1) ≡ some ((n + 1 - 1) % 4)
choice-some n = sym (off none (some ((n + 1 - 1) % 4)) (ne_eqb (n + 1) 0 (λ e. omega arith)) refl)

pub choice-back : (o : Option ℕ) → ChoiceFits o → choice (choice_slot o) ≡ o
choice-back none h = refl
choice-back (some n) h = choice-some n ∙ ap some (omega arith)

pub choice-written : (o : Option ℕ) → ChoiceFits o → is_choice (choice_slot o) ≡ true
choice-written none h = refl
choice-written (some n) h = lt-ltb (n + 1) 5 (omega arith)

pub choice-kept : (n : ℕ) → is_choice n ≡ true → n ≡ choice_slot (choice n)
choice-kept zero h = refl
choice-kept (suc zero) h = refl
choice-kept (suc (suc zero)) h = refl
choice-kept (suc (suc (suc zero))) h = refl
choice-kept (suc (suc (suc (suc zero)))) h = refl
choice-kept (suc (suc (suc (suc (suc n))))) h = absurd (omega (arith, ltb-true (suc (suc (suc (suc (suc n))))) 5 h))

pub choice-fits : (n : ℕ) → ChoiceFits (choice n)
choice-fits n = side (eqb n 0)
  where
    side : (t : Bool) → ChoiceFits (pick t none (some ((n - 1) % 4)))
    side true = tt
    side false = omega arith

-- ---- a motor's run or none

-- the run that five slots are, if there is one
abbrev some_run : ℕ → ℕ → ℕ → ℕ → ℕ → MotorRun
some_run motor first second index left = record {
  motor = (motor - 1) % 4;
  sequence = record { commands = first ∷ second ∷ []; index = min index 255; repeats_left = left % 256 };
}

abbrev pub run_of : ℕ → ℕ → ℕ → ℕ → ℕ → Option MotorRun
run_of motor first second index left = pick (eqb motor 0) none (some (some_run motor first second index left))

-- the five slots of a run
abbrev pub first_of : Option MotorRun → ℕ
first_of = of_run (λ (s : CommandRun). get_or s.commands 0 0)

abbrev pub second_of : Option MotorRun → ℕ
second_of = of_run (λ (s : CommandRun). get_or s.commands 1 0)

abbrev pub index_of : Option MotorRun → ℕ
index_of = of_run (λ (s : CommandRun). s.index)

abbrev pub left_of : Option MotorRun → ℕ
left_of = of_run (λ (s : CommandRun). s.repeats_left)

two_back : (l : List ℕ) → length l ≡ 2 → ◌≡◌ {A = List ℕ} (get_or l 0 0 ∷ get_or l 1 0 ∷ []) l
two_back [] h = absurd (omega arith)
two_back (a ∷ []) h = absurd (omega arith)
two_back (a ∷ b ∷ []) h = refl
two_back (a ∷ b ∷ c ∷ l) h = absurd (omega arith)

run-same : (r : MotorRun) → RunFits r → some_run (r.motor + 1) (first_of (some r)) (second_of (some r)) (index_of (some r)) (left_of (some r)) ≡ r
run-same r h =
    let motor : (r.motor + 1 - 1) % 4 ≡ r.motor = omega (arith, h.motor) in
    let commands = two_back r.sequence.commands h.two in
    let index : min r.sequence.index 255 ≡ r.sequence.index = omega (arith, h.index) in
    λ j. record { motor = motor j; sequence = record { commands = commands j; index = index j; repeats_left = mod-eq_of_lt h.left j } }

pub run-back : (o : Option MotorRun) → SequenceFits o → run_of (run_motor o) (first_of o) (second_of o) (index_of o) (left_of o) ≡ o
run-back none h = refl
run-back (some r) h = sym (off none _ (ne_eqb (r.motor + 1) 0 (λ e. omega arith)) (sym (ap some (run-same r h))))

pub run-written : (o : Option MotorRun) → SequenceFits o → is_run (run_motor o) (first_of o) (second_of o) (index_of o) (left_of o) ≡ true
run-written none h = refl
run-written (some r) h = sym (
    off _ _ (ne_eqb (r.motor + 1) 0 (λ e. omega arith))
    (on _ _ (lt-ltb (r.motor + 1) 5 (omega (arith, h.motor)))
    (on _ _ (lt-ltb r.sequence.index 256 h.index)
    (sym (lt-ltb r.sequence.repeats_left 256 h.left)))))

module _ (motor first second index left : ℕ) where
  pub run_fits : SequenceFits (run_of motor first second index left)
  run_fits = side (eqb motor 0)
    where
      side : (t : Bool) → SequenceFits (pick t none (some (some_run motor first second index left)))
      side true = tt
      side false = record { motor = omega arith; two = refl; index = omega arith; left = omega arith }

  -- each slot of a run is what is written for the run that is read
  abbrev RunKept : Option MotorRun → Type 0
  RunKept o = (motor ≡ run_motor o) × (first ≡ first_of o) × (second ≡ second_of o) × (index ≡ index_of o) × (left ≡ left_of o)

  none_kept : eqb motor 0 ≡ true → pick (eqb first 0) (pick (eqb second 0) (pick (eqb index 0) (eqb left 0) false) false) false ≡ true → RunKept none
  none_kept e h =
      let a = both (eqb first 0) (pick (eqb second 0) (pick (eqb index 0) (eqb left 0) false) false) h in
      let b = both (eqb second 0) (pick (eqb index 0) (eqb left 0) false) a.1 in
      let c = both (eqb index 0) (eqb left 0) b.1 in
      (eqb-true motor 0 e, eqb-true first 0 a.0, eqb-true second 0 b.0, eqb-true index 0 c.0, eqb-true left 0 c.1)

  some-kept : eqb motor 0 ≡ false → pick (ltb motor 5) (pick (ltb index 256) (ltb left 256) false) false ≡ true → RunKept (some (some_run motor first second index left))
  some-kept e h =
      let a = both (ltb motor 5) (pick (ltb index 256) (ltb left 256) false) h in
      let b = both (ltb index 256) (ltb left 256) a.1 in
      let n : motor ≡ 0 → ⊥ = eqb-false motor 0 e in
      let near : motor ≡ (motor - 1) % 4 + 1 = omega (arith, ltb-true motor 5 a.0) in
      let same : index ≡ min index 255 = omega (arith, ltb-true index 256 b.0) in
      (near, refl, refl, same, sym (mod-eq_of_lt (ltb-true left 256 b.1)))

  pub run-kept : is_run motor first second index left ≡ true → RunKept (run_of motor first second index left)
  run-kept = side (eqb motor 0) refl
    where
      side : (t : Bool) → eqb motor 0 ≡ t
          → pick t (pick (eqb first 0) (pick (eqb second 0) (pick (eqb index 0) (eqb left 0) false) false) false) (pick (ltb motor 5) (pick (ltb index 256) (ltb left 256) false) false) ≡ true
          → RunKept (pick t none (some (some_run motor first second index left)))
      side true e h = none_kept e h
      side false e h = some-kept e h

-- ---- replies

-- the kinds of refusals are those of 7 to 11
refused-kind : (number : ℕ) → 7 ≤ number → number ≤ 11 → is_refused_kind (REFUSED + number) ≡ true
refused-kind number a b = sym (off _ _ (le-ltb (16 + number) 23 (omega arith)) (sym (le-leb (16 + number) 27 (omega arith))))

pub kind-refused : (k : ℕ) → is_refused_kind k ≡ true → (23 ≤ k) × (k ≤ 27)
kind-refused k = side (ltb k 23) refl
  where
    side : (t : Bool) → ltb k 23 ≡ t → pick t false (leb k 27) ≡ true → (23 ≤ k) × (k ≤ 27)
    side true e h = absurd (true≢false (sym h))
    side false e h = (ltb-false k 23 e, leb-true k 27 h)

-- a kind of 9 and above is a refusal
pub reply-refused : (k n : ℕ) → 9 ≤ k → reply k n ≡ pick (is_refused_kind k) (refused (k - REFUSED)) (refused no_reply)
reply-refused k n h = sym (
    off _ _ (ne_eqb k 0 (λ e. omega arith))
    (off _ _ (ne_eqb k 1 (λ e. omega arith))
    (off _ _ (ne_eqb k 2 (λ e. omega arith))
    (off _ _ (ne_eqb k 3 (λ e. omega arith))
    (off _ _ (ne_eqb k 4 (λ e. omega arith))
    (off _ _ (ne_eqb k 5 (λ e. omega arith))
    (off _ _ (ne_eqb k 6 (λ e. omega arith))
    (off _ _ (ne_eqb k 7 (λ e. omega arith))
    (off _ _ (ne_eqb k 8 (λ e. omega arith)) refl)))))))))

refused-written : (k n : ℕ) → 9 ≤ k → is_reply k n ≡ pick (is_refused_kind k) (eqb n 0) false
refused-written k n h = sym (
    off _ _ (ne_eqb k 0 (λ e. omega arith))
    (off _ _ (le-ltb k 8 (omega arith))
    (off _ _ (ne_eqb k 8 (λ e. omega arith)) refl)))

pub reply-back : (a : Answer Reading) → ReplyFits a → reply (reply_kind a) (reply_number a) ≡ a
unfolding debug_kind
reply-back (given (erpm n)) h = refl
reply-back (given (temp n)) h = ap (λ (x : ℕ). given (temp x)) (mod-eq_of_lt h)
reply-back (given (volt n)) h = ap (λ (x : ℕ). given (volt x)) (mod-eq_of_lt h)
reply-back (given (amp n)) h = ap (λ (x : ℕ). given (amp x)) (mod-eq_of_lt h)
reply-back (given (debug zero n)) h = absurd (omega (arith, h.0))
reply-back (given (debug (suc zero) n)) h = ap (λ (x : ℕ). given (debug 1 x)) (mod-eq_of_lt h.2)
reply-back (given (debug (suc (suc zero)) n)) h = ap (λ (x : ℕ). given (debug 2 x)) (mod-eq_of_lt h.2)
reply-back (given (debug (suc (suc (suc zero))) n)) h = ap (λ (x : ℕ). given (debug 3 x)) (mod-eq_of_lt h.2)
reply-back (given (debug (suc (suc (suc (suc channel)))) n)) h = absurd (omega (arith, h.1))
reply-back (given (state n)) h = ap (λ (x : ℕ). given (state x)) (mod-eq_of_lt h)
reply-back (given edt) h = refl
reply-back (refused number) h =
    let same : REFUSED + number - REFUSED ≡ number = omega arith in
    reply-refused (REFUSED + number) 0 (omega (arith, h.0)) ∙ sym (on _ _ (refused-kind number h.0 h.1) (sym (ap refused same)))

pub reply-written : (a : Answer Reading) → ReplyFits a → is_reply (reply_kind a) (reply_number a) ≡ true
unfolding debug_kind
reply-written (given (erpm n)) h = refl
reply-written (given (temp n)) h = lt-ltb n 256 h
reply-written (given (volt n)) h = lt-ltb n 256 h
reply-written (given (amp n)) h = lt-ltb n 256 h
reply-written (given (debug zero n)) h = absurd (omega (arith, h.0))
reply-written (given (debug (suc zero) n)) h = lt-ltb n 256 h.2
reply-written (given (debug (suc (suc zero)) n)) h = lt-ltb n 256 h.2
reply-written (given (debug (suc (suc (suc zero))) n)) h = lt-ltb n 256 h.2
reply-written (given (debug (suc (suc (suc (suc channel)))) n)) h = absurd (omega (arith, h.1))
reply-written (given (state n)) h = lt-ltb n 256 h
reply-written (given edt) h = refl
reply-written (refused number) h =
    refused-written (REFUSED + number) 0 (omega (arith, h.0)) ∙ sym (on _ _ (refused-kind number h.0 h.1) refl)

pub reply-fits : (k n : ℕ) → ReplyFits (reply k n)
reply-fits zero n = tt
reply-fits (suc zero) n = omega arith
reply-fits (suc (suc zero)) n = omega arith
reply-fits (suc (suc (suc zero))) n = omega arith
reply-fits (suc (suc (suc (suc zero)))) n = (omega arith, omega arith, omega arith)
reply-fits (suc (suc (suc (suc (suc zero))))) n = (omega arith, omega arith, omega arith)
reply-fits (suc (suc (suc (suc (suc (suc zero)))))) n = (omega arith, omega arith, omega arith)
reply-fits (suc (suc (suc (suc (suc (suc (suc zero))))))) n = omega arith
reply-fits (suc (suc (suc (suc (suc (suc (suc (suc zero)))))))) n = tt
reply-fits (suc (suc (suc (suc (suc (suc (suc (suc (suc k))))))))) n =
    subst ReplyFits (sym (reply-refused kind n (omega arith))) (side (is_refused_kind kind) refl)
  where
    kind : ℕ
    kind = suc (suc (suc (suc (suc (suc (suc (suc (suc k))))))))

    side : (t : Bool) → is_refused_kind kind ≡ t → ReplyFits (pick t (refused (kind - REFUSED)) (refused no_reply))
    side true e = let l = kind-refused kind e in (omega (arith, l.0), omega (arith, l.1))
    side false e = (omega arith, omega arith)

-- a reply's kind and number are what is written for the reply that is read
abbrev ReplyKept : ℕ → ℕ → Answer Reading → Type 0
ReplyKept k n a = (k ≡ reply_kind a) × (n ≡ reply_number a)

pub reply-kept : (k n : ℕ) → is_reply k n ≡ true → ReplyKept k n (reply k n)
unfolding debug_kind
reply-kept zero n h = (refl, refl)
reply-kept (suc zero) n h = (refl, sym (mod-eq_of_lt (ltb-true n 256 h)))
reply-kept (suc (suc zero)) n h = (refl, sym (mod-eq_of_lt (ltb-true n 256 h)))
reply-kept (suc (suc (suc zero))) n h = (refl, sym (mod-eq_of_lt (ltb-true n 256 h)))
reply-kept (suc (suc (suc (suc zero)))) n h = (refl, sym (mod-eq_of_lt (ltb-true n 256 h)))
reply-kept (suc (suc (suc (suc (suc zero))))) n h = (refl, sym (mod-eq_of_lt (ltb-true n 256 h)))
reply-kept (suc (suc (suc (suc (suc (suc zero)))))) n h = (refl, sym (mod-eq_of_lt (ltb-true n 256 h)))
reply-kept (suc (suc (suc (suc (suc (suc (suc zero))))))) n h = (refl, sym (mod-eq_of_lt (ltb-true n 256 h)))
reply-kept (suc (suc (suc (suc (suc (suc (suc (suc zero)))))))) n h = (refl, eqb-true n 0 h)
reply-kept (suc (suc (suc (suc (suc (suc (suc (suc (suc k))))))))) n h =
    subst (ReplyKept kind n) (on _ _ b.0 refl ∙ sym (reply-refused kind n (omega arith))) (same, eqb-true n 0 b.1)
  where
    kind : ℕ
    kind = suc (suc (suc (suc (suc (suc (suc (suc (suc k))))))))

    b : (is_refused_kind kind ≡ true) × (eqb n 0 ≡ true)
    b = both (is_refused_kind kind) (eqb n 0) (sym (refused-written kind n (omega arith)) ∙ h)

    same : kind ≡ REFUSED + (kind - REFUSED)
    same = omega (arith, (kind-refused kind b.0).0)
