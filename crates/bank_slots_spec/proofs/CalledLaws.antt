-- What a call on the slots of a bank promises, if it refuses and if it takes its step.
-- Assumes nothing.
use mathlib.Core.Path.{◌≡◌, ◌∙◌, refl, sym, ap}
use mathlib.Core.Bool.{Bool, true, false}
use mathlib.Core.List.{List}
use Prim.Native.Nat.{ℕ}
use lib.Dec.{eqb}
use lib.ListN.{length}
use borrow.Author.Tests.{eq-eqb, ne_eqb}
use Rattle.dshot_reply_spec.specs.Refusals.{wrong_length}
use Rattle.dshot_bank_spec.specs.State.{Bank, Buffers}
use Rattle.dshot_bank_spec.specs.Calls.{Call, Answer, refused, State}
use Rattle.dshot_bank_spec.specs.Steps.{step}
use Rattle.dshot_bank_spec.specs.Lists.{is_refused}
use Rattle.dshot_bank_spec.proofs.LaneLaws.{on, off}
use Rattle.dshot_bank_spec.proofs.Refusals.{refusals-keep}
use Rattle.bank_slots_spec.specs.Places as Places
use Rattle.bank_slots_spec.specs.Moves.{Moves}
use Rattle.bank_slots_spec.specs.Called.{Called, fit, number, state_at, answer_of, bank_after, buffers_after}
use Rattle.bank_slots_spec.specs.Outs.{slots_of, out_after}

-- ---- lengths

pub state-short : (xs : List ℕ) (others : Bool) → (length xs ≡ Places.slots → ⊥) → fit xs others ≡ false
state-short xs others h = sym (off _ _ (ne_eqb _ _ h) refl)

pub state-fits : (xs : List ℕ) (others : Bool) → length xs ≡ Places.slots → fit xs others ≡ others
state-fits xs others h = sym (on _ _ (eq-eqb _ _ h) refl)

pub other-short : (xs : List ℕ) (others : Bool) → length xs ≡ Places.slots → others ≡ false → fit xs others ≡ false
other-short xs others h e = state-fits xs others h ∙ e

-- ---- answers

module _ (call : Call) (s : State) {fits : Bool} where
  pub answer-unfit : fits ≡ false → answer_of fits s call ≡ refused wrong_length
  unfolding answer_of
  answer-unfit e = sym (off _ _ e refl)

  pub answer-fits : fits ≡ true → answer_of fits s call ≡ (step 4 s call).answer
  unfolding answer_of
  answer-fits e = sym (on _ _ e refl)

  bank-unfit : fits ≡ false → bank_after fits s call ≡ s.bank
  unfolding bank_after
  bank-unfit e = sym (off _ _ e refl)

  bank-fits : fits ≡ true → bank_after fits s call ≡ (step 4 s call).state.bank
  unfolding bank_after
  bank-fits e = sym (on _ _ e refl)

  pub buffers-unfit : fits ≡ false → buffers_after fits s call ≡ s.buffers
  unfolding buffers_after
  buffers-unfit e = sym (off _ _ e refl)

  pub buffers-fits : fits ≡ true → buffers_after fits s call ≡ (step 4 s call).state.buffers
  unfolding buffers_after
  buffers-fits e = sym (on _ _ e refl)

-- ---- calls

module _ {fits : Bool} {call : Call} {b : Buffers} (xs : List ℕ) where
  -- a slice of another length
  pub called-unfit : fits ≡ false → Called fits call b xs xs wrong_length
  called-unfit e = record {
    answer = sym (ap number (answer-unfit call (state_at xs b) e));
    bank = sym (bank-unfit call (state_at xs b) e);
    stays = λ _. refl;
    written = λ w. w;
  }

  -- a refusal of the step
  pub called-refused : {k : ℕ} → fits ≡ true → (step 4 (state_at xs b) call).answer ≡ refused k → Called fits call b xs xs k
  called-refused e q = record {
    answer = sym (ap number (answer-fits call (state_at xs b) e ∙ q));
    bank = sym (bank-fits call (state_at xs b) e ∙ ap (λ (s : State). s.bank) (refusals-keep 4 (state_at xs b) call (ap is_refused q)));
    stays = λ _. refl;
    written = λ w. w;
  }

  -- the step
  pub called-done : {ys : List ℕ} → fits ≡ true → 0 ≡ number (step 4 (state_at xs b) call).answer
      → Moves (λ (k : Bank). (step 4 (record { bank = k; buffers = b }) call).state.bank) xs ys → Called fits call b xs ys 0
  called-done e q m = record {
    answer = q ∙ sym (ap number (answer-fits call (state_at xs b) e));
    bank = m.loads ∙ sym (bank-fits call (state_at xs b) e);
    stays = λ n. absurd (n refl);
    written = m.keeps;
  }

-- only the answer, beside the whole promise
pub with-answer : {fits : Bool} {call : Call} {xs ys : List ℕ} {r : ℕ} → ((b : Buffers) → Called fits call b xs ys r)
    → ((b : Buffers) → r ≡ number (answer_of fits (state_at xs b) call)) × ((b : Buffers) → Called fits call b xs ys r)
with-answer h = (λ b. (h b).answer, h)

-- ---- lent slots

-- a refusal leaves them
pub out-kept : {a : Answer} (k : ℕ) (before : List ℕ) → a ≡ refused k → (k ≡ 0 → ⊥) → before ≡ out_after a before
unfolding out_after
out-kept k before e z = off _ _ (ap (λ (x : Answer). eqb (number x) 0) e ∙ ne_eqb k 0 z) refl

-- any other answer fills them
pub out-filled : {a a' : Answer} {after : List ℕ} (before : List ℕ) → a ≡ a' → number a' ≡ 0 → after ≡ slots_of a' → after ≡ out_after a before
unfolding out_after
out-filled before e z h = on _ _ (ap (λ (x : Answer). eqb (number x) 0) e ∙ eq-eqb _ _ z) (h ∙ ap slots_of (sym e))
