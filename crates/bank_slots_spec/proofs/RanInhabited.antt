-- Lists of exported calls that run. On the slots of a bank, each call leaves those of the bank after it. A call whose slices do not fit leaves any
-- slots as they were. A definition of such lists that left some of these out would not prove this.
-- Assumes nothing.
use Rattle.std.specs.Prelude.{if◌then◌else◌}
use mathlib.Core.Path.{◌≡◌, ◌∙◌, refl, sym, ap}
use mathlib.Core.Bool.{Bool, true, false}
use mathlib.Core.List.{List, [], ◌∷◌}
use Prim.Native.Nat.{ℕ, zero, suc, ◌<◌}
use native.Mathlib.Omega.{arith}
use lib.Dec.{ltb}
use lib.ListN.{drop}
use borrow.Author.Tests.{ltb-true}
use Rattle.dshot_reply_spec.specs.Refusals.{wrong_length}
use Rattle.dshot_spec.specs.Timing.{Timing}
use Rattle.dshot_bank_spec.specs.State.{Bank, Buffers}
use Rattle.dshot_bank_spec.specs.Commands.{from_lanes, enable_bidirectional}
use Rattle.dshot_bank_spec.specs.Calls.{Call, enable_bidirectional_call, command_stop_call, request_telemetry_call, take_replies, is_faulted, lend, Answer, done, refused, motor_sent, serviced, interrupted, replied, flag, counts, values, reply_counts, slots, State}
use Rattle.dshot_bank_spec.specs.Steps.{port_refusal, step}
use Rattle.dshot_bank_spec.specs.Lists.{is_refused}
use Rattle.dshot_bank_spec.proofs.Refusals.{refusals-keep}
use Rattle.bank_slots_spec.specs.Store.{store}
use Rattle.bank_slots_spec.specs.Storable.{Below, Storable}
use Rattle.bank_slots_spec.specs.Called.{Called, number, state_at, answer_of, bank_after, buffers_after}
use Rattle.bank_slots_spec.specs.Outs.{out_after}
use Rattle.bank_slots_spec.specs.SlotLists.{Made, Shown, Ran, none_left, one_more}
use Rattle.bank_slots_spec.proofs.MemoryLaws.{both}
use Rattle.bank_slots_spec.proofs.CalledLaws.{called-unfit, answer-unfit, buffers-unfit, out-kept}
use Rattle.bank_slots_spec.proofs.Stored.{length-store, load_store, store-written, new-fits}

-- ---- one call

-- an answer with a number is a refusal
refused-number : (a : Answer) → (number a ≡ 0 → ⊥) → is_refused a ≡ true
refused-number done h = absurd (h refl)
refused-number (refused k) h = refl
refused-number (motor_sent m) h = absurd (h refl)
refused-number (serviced e o s) h = absurd (h refl)
refused-number (interrupted e o) h = absurd (h refl)
refused-number (replied r) h = absurd (h refl)
refused-number (flag b) h = absurd (h refl)
refused-number (counts s) h = absurd (h refl)
refused-number (values v) h = absurd (h refl)
refused-number (reply_counts r) h = absurd (h refl)
refused-number (slots l) h = absurd (h refl)

module _ (bank : Bank) (h : Storable bank) (b : Buffers) (call : Call) where
  abbrev before : State
  before = record { bank = bank; buffers = b }

  abbrev after : State
  after = (step 4 before call).state

  loaded : state_at (store bank) b ≡ before
  loaded = λ j. record { bank = load_store bank h j; buffers = b }

  -- its promise holds of the slots that are stored for the bank after it
  pub called-there : Storable after.bank → Called true call b (store bank) (store after.bank) (number (step 4 before call).answer)
  unfolding answer_of bank_after
  called-there f = record {
    answer = ap (λ (x : State). number (step 4 x call).answer) (sym loaded);
    bank = load_store after.bank f ∙ ap (λ (x : State). (step 4 x call).state.bank) (sym loaded);
    stays = λ n. ap (λ (x : State). store x.bank) (refusals-keep 4 before call (refused-number (step 4 before call).answer n));
    written = λ w. store-written after.bank f;
  }

  abbrev shown : List ℕ → Shown
  shown out = record {
    returned = number (step 4 before call).answer;
    answer = out_after (step 4 before call).answer out;
    state = state_at (store after.bank) after.buffers;
  }

  -- before a list that runs from there
  pub runs-more : (out : List ℕ) {ms : List Made} {rest : List Shown} → Storable after.bank → Below (store after.bank)
      → Ran (store after.bank) after.buffers ms rest → Ran (store bank) b (record { fits = true; call = call; out = out } ∷ ms) (shown out ∷ rest)
  unfolding answer_of buffers_after
  runs-more out f w r =
      one_more (called-there f) (ap (λ (x : State). (step 4 x call).state.buffers) (sym loaded))
      (ap (λ (x : State). out_after (step 4 x call).answer out) (sym loaded))
      (length-store after.bank ∙ sym (length-store bank)) w r

-- a call whose slices do not fit, on any slots
pub runs-unfit : (xs : List ℕ) (b : Buffers) (call : Call) (out : List ℕ) {ms : List Made} {rest : List Shown} → Below xs → Ran xs b ms rest
    → Ran xs b (record { fits = false; call = call; out = out } ∷ ms) (record { returned = wrong_length; answer = out; state = state_at xs b } ∷ rest)
runs-unfit xs b call out w r =
    one_more (called-unfit xs refl) (sym (buffers-unfit call (state_at xs b) refl))
    (out-kept 13 out (answer-unfit call (state_at xs b) refl) (λ z. omega arith)) refl w r

-- ---- an example

-- whether each number has 16 bits
abbrev small : List ℕ → Bool
small [] = true
small (x ∷ xs) = if ltb x 65536 then small xs else false

all-below : (xs : List ℕ) → small xs ≡ true → Below xs
all-below [] e i = omega arith
all-below (x ∷ xs) e zero = ltb-true x 65536 (both (ltb x 65536) (small xs) e).0
all-below (x ∷ xs) e (suc i) = all-below xs (both (ltb x 65536) (small xs) e).1 i

-- a timing whose numbers have 16 bits
pub record Ticks (t : Timing) : Type 0 where
  pub arr : t.arr < 65536
  pub zero_high : t.zero_high < 65536
  pub one_high : t.one_high < 65536
  pub reply_sample_arr : t.reply_sample_arr < 65536

module _ (t : Timing) (h : Ticks t) (b : Buffers) where
  -- a new bank, and the same in bidirectional mode
  abbrev new : Bank
  new = from_lanes 4 t

  abbrev enabled : Bank
  enabled = (step 4 (record { bank = new; buffers = b }) (enable_bidirectional_call true)).state.bank

  -- the slots after those of the timing
  tail-below : Below (drop 4 (store new))
  unfolding store from_lanes
  tail-below = all-below (drop 4 (store new)) refl

  new-below : Below (store new)
  unfolding store from_lanes
  new-below zero = h.arr
  new-below (suc zero) = h.zero_high
  new-below (suc (suc zero)) = h.one_high
  new-below (suc (suc (suc zero))) = h.reply_sample_arr
  new-below (suc (suc (suc (suc i)))) = tail-below i

  enabled-tail : Below (drop 4 (store enabled))
  unfolding store from_lanes step port_refusal enable_bidirectional
  enabled-tail = all-below (drop 4 (store enabled)) refl

  enabled-below : Below (store enabled)
  unfolding store from_lanes step port_refusal enable_bidirectional
  enabled-below zero = h.arr
  enabled-below (suc zero) = h.zero_high
  enabled-below (suc (suc zero)) = h.one_high
  enabled-below (suc (suc (suc zero))) = h.reply_sample_arr
  enabled-below (suc (suc (suc (suc i)))) = enabled-tail i

  enabled-fits : Storable enabled
  unfolding from_lanes step port_refusal enable_bidirectional
  enabled-fits =
      let n = new-fits t in
      record {
        values = n.values;
        lease_started = n.lease_started;
        lease_duration = n.lease_duration;
        request = n.request;
        sent = n.sent;
        run = n.run;
        started = n.started;
        marks = n.marks;
        completions = n.completions;
        lanes = n.lanes;
        replies = n.replies;
      }

  -- What runs from the slots of a new bank. First come a call that does not fit, the call that sets it to bidirectional, and a refused call. Then
  -- come a lending, a look, and a taking of replies that are not held.
  abbrev calls : Buffers → List Made
  calls b' =
      record { fits = false; call = command_stop_call; out = [] }
      ∷ record { fits = true; call = enable_bidirectional_call true; out = [] }
      ∷ record { fits = true; call = request_telemetry_call 9; out = [] }
      ∷ record { fits = true; call = lend b'; out = [] }
      ∷ record { fits = true; call = is_faulted; out = 0 ∷ [] }
      ∷ record { fits = true; call = take_replies; out = [] }
      ∷ []

  pub record Runs (b' : Buffers) : Type 0 where
    pub shown : List Shown
    pub ran : Ran (store new) b (calls b') shown

  pub list-runs : (b' : Buffers) → Runs b'
  unfolding from_lanes step port_refusal enable_bidirectional
  list-runs b' = record {
    shown = _;
    ran =
        runs-unfit (store new) b command_stop_call [] new-below
        (runs-more new (new-fits t) b (enable_bidirectional_call true) [] enabled-fits enabled-below
        (runs-more enabled enabled-fits b (request_telemetry_call 9) [] enabled-fits enabled-below
        (runs-more enabled enabled-fits b (lend b') [] enabled-fits enabled-below
        (runs-more enabled enabled-fits b' is_faulted (0 ∷ []) enabled-fits enabled-below
        (runs-more enabled enabled-fits b' take_replies [] enabled-fits enabled-below none_left)))));
  }
