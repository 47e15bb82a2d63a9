-- What the calls that make a bank and command it write into the slots, and what that does to the bank in them.
-- Assumes nothing.
use mathlib.Core.Path.{◌≡◌, ◌∙◌, refl, sym, ap}
use mathlib.Core.Bool.{Bool, true, false}
use mathlib.Core.List.{List, [], ◌∷◌, ◌++◌}
use mathlib.Core.Option.{Option, none, some}
use Prim.Native.Nat.{ℕ, ◌+◌, ◌-◌, ◌*◌, ◌/◌, ◌%◌, ◌^◌, ◌<◌, min}
use native.Mathlib.Omega.{arith}
use lib.Arith.{digits_div, digits_mod}
use lib.Dec.{eqb, ltb}
use lib.ListN.{length, get_or, set, take, drop, replicate, length-drop}
use lib.Seq.{get_or-take, get_or-drop, length-take-le}
use borrow.Author.Tests.{eq-eqb, ne_eqb}
use Rattle.dshot_reply_spec.specs.Answer.{pick}
use Rattle.dshot_reply_spec.specs.Refusals.{no_reply}
use Rattle.dshot_spec.specs.Tabulate.{tabulate}
use Rattle.dshot_spec.specs.Throttle.{throttle_value, throttle_values}
use Rattle.dshot_bank_spec.specs.Lanes.{any, is_some}
use Rattle.dshot_bank_spec.specs.State.{Core}
use Rattle.dshot_bank_spec.specs.With.{with_bidirectional, with_demand, with_telemetry, with_frame}
use Rattle.dshot_bank_spec.specs.Commands.{from_lanes, is_running}
use Rattle.dshot_bank_spec.proofs.LaneLaws.{on, off}
use Rattle.bank_slots_spec.specs.Memory.{Row, ◌holds◌, at, write, long_rows}
use Rattle.bank_slots_spec.specs.Memory as Memory
use Rattle.bank_slots_spec.specs.Places.{slots, TIMING, VALUES, LEASE_STARTED, LEASE_OVER, REQUEST, BIDIRECTIONAL, REPLIES}
use Rattle.bank_slots_spec.specs.Load.{choice, REFUSED, four, timing_at, bank_at, load}
use Rattle.bank_slots_spec.specs.Store.{value_rows, store}
use Rattle.bank_slots_spec.specs.Moves.{Moves, on_core}
use Rattle.bank_slots_spec.specs.Outs.{motor_slots}
use Rattle.bank_slots_spec.specs.Parts.{demanded}
use Rattle.bank_slots_spec.proofs.MemoryLaws.{length-write}
use Rattle.bank_slots_spec.proofs.MoveLaws.{moves-write, moves-at}
use Rattle.bank_slots_spec.proofs.FieldLaws.{four-back, long-back, lease-back, choice-back, choice-written}

-- ---- a new bank

-- its timing, and that no lane has a reply
abbrev pub new_rows : List ℕ → List Row
new_rows t =
    (TIMING holds at t 0)
    ∷ (TIMING + 1 holds at t 1)
    ∷ (TIMING + 2 holds at t 2)
    ∷ (TIMING + 3 holds at t 3)
    ∷ (REPLIES holds REFUSED + no_reply)
    ∷ (REPLIES + 9 holds REFUSED + no_reply)
    ∷ (REPLIES + 18 holds REFUSED + no_reply)
    ∷ (REPLIES + 27 holds REFUSED + no_reply)
    ∷ []

pub new-bank : (t : List ℕ) → write (new_rows t) (replicate slots 0) ≡ store (from_lanes 4 (timing_at (at t)))
unfolding store from_lanes
new-bank t = refl

-- ---- rows

module _ (xs : List ℕ) (n : length xs ≡ slots) where
  pub bidirectional-set : Moves (on_core (λ (c : Core). with_frame (with_bidirectional true c.frame) c)) xs (write ((BIDIRECTIONAL holds 1) ∷ []) xs)
  bidirectional-set = moves-write ((BIDIRECTIONAL holds 1) ∷ []) xs n refl refl (λ w. ((w.0.0, w.0.1, refl, w.0.3, w.0.4, w.0.5), w.1))

  -- a request for a lane
  pub requested : (motor : ℕ) → motor < 4
      → Moves (on_core (λ (c : Core). with_telemetry (record { request = some motor; request_sent = c.telemetry.request_sent }) c)) xs (write ((REQUEST holds motor + 1) ∷ []) xs)
  requested motor h =
      moves-write ((REQUEST holds motor + 1) ∷ []) xs n refl
      (ap (λ (o : Option ℕ). on_core (λ (c : Core). with_telemetry (record { request = o; request_sent = c.telemetry.request_sent }) c) (bank_at (at xs))) (choice-back (some motor) h))
      (λ w. (w.0, (w.1.0, ((choice-written (some motor) h, w.1.1.0.1, w.1.1.0.2), w.1.1.1))))

  -- a demand and its lease
  demand-set : (commands : List ℕ) (now d : ℕ) → now < 2 ^ 64 → d + 1 < 2 ^ 64
      → Moves (on_core (demanded commands now d)) xs (write (value_rows (throttle_values 4 (four (at commands))) ++ (long_rows LEASE_STARTED now ++ long_rows LEASE_OVER (d + 1))) xs)
  unfolding throttle_values tabulate
  demand-set commands now d h k =
      moves-write (value_rows (throttle_values 4 (four (at commands))) ++ (long_rows LEASE_STARTED now ++ long_rows LEASE_OVER (d + 1))) xs n refl
      (λ j. on_core (with_demand (record { requested_values = throttle_values 4 commands; lease_started_ms = long-back now h j; lease_duration_ms = lease-back (some d) k j })) (bank_at (at xs)))
      (λ w. w)

-- writing leaves a length, once and twice
pub write-length : {ys : List ℕ} (rows : List Row) (xs : List ℕ) → ys ≡ write rows xs → length ys ≡ length xs
write-length rows xs e = ap length e ∙ length-write rows xs

pub write-twice-length : {ys zs : List ℕ} (first second : List Row) (xs : List ℕ) → ys ≡ write first xs → zs ≡ write second ys → length zs ≡ length xs
write-twice-length {ys} first second xs e f = write-length second ys f ∙ write-length first xs e

-- four slots written as one number
pub joined-rows : (k a b c d : ℕ) → a < 65536 → b < 65536 → c < 65536 → d < 65536
    → long_rows k (a + 65536 * b + 4294967296 * c + 281474976710656 * d) ≡ (k holds a) ∷ (k + 1 holds b) ∷ (k + 2 holds c) ∷ (k + 3 holds d) ∷ []
joined-rows k a b c d p q r s =
    let n = a + 65536 * b + 4294967296 * c + 281474976710656 * d in
    let whole : n ≡ ((d * 65536 + c) * 65536 + b) * 65536 + a = omega arith in
    let one : n / 65536 ≡ (d * 65536 + c) * 65536 + b = ap (λ (x : ℕ). x / 65536) whole ∙ digits_div ((d * 65536 + c) * 65536 + b) p in
    let two : n / 65536 / 65536 ≡ d * 65536 + c = ap (λ (x : ℕ). x / 65536) one ∙ digits_div (d * 65536 + c) q in
    let three : n / 65536 / 65536 / 65536 ≡ d = ap (λ (x : ℕ). x / 65536) two ∙ digits_div d r in
    let e : n % 65536 ≡ a = ap (λ (x : ℕ). x % 65536) whole ∙ digits_mod ((d * 65536 + c) * 65536 + b) p in
    let f : n / 65536 % 65536 ≡ b = ap (λ (x : ℕ). x % 65536) one ∙ digits_mod (d * 65536 + c) q in
    let g : n / 65536 / 65536 % 65536 ≡ c = ap (λ (x : ℕ). x % 65536) two ∙ digits_mod d r in
    let h : n / 65536 / 65536 / 65536 % 65536 ≡ d = ap (λ (x : ℕ). x % 65536) three ∙ omega (arith, s) in
    λ j. (k holds e j) ∷ (k + 1 holds f j) ∷ (k + 2 holds g j) ∷ (k + 3 holds h j) ∷ []

-- a throttle's value has sixteen bits
value_low : (x : ℕ) → throttle_value x < 65536
unfolding throttle_value
value_low x = low (eqb x 0)
  where
    low : (b : Bool) → pick b 0 (48 + min x 2000 * 1999 / 2000) < 65536
    low true = omega arith
    low false = omega arith

-- four numbers in one
abbrev pub joined_of : List ℕ → ℕ
joined_of l = get_or l 0 0 + 65536 * get_or l 1 0 + 4294967296 * get_or l 2 0 + 281474976710656 * get_or l 3 0

-- the values of four throttles, written as one number
pub values-joined : (commands : List ℕ) → long_rows VALUES (joined_of (throttle_values 4 commands)) ≡ value_rows (throttle_values 4 commands)
unfolding throttle_values tabulate
values-joined commands =
    joined-rows VALUES (throttle_value (at commands 0)) (throttle_value (at commands 1)) (throttle_value (at commands 2)) (throttle_value (at commands 3))
    (value_low (at commands 0)) (value_low (at commands 1)) (value_low (at commands 2)) (value_low (at commands 3))

-- a demand and its lease, written in three parts
pub demand-parts : {ys zs values : List ℕ} (xs commands : List ℕ) (now d : ℕ) → length xs ≡ slots → now < 2 ^ 64 → d + 1 < 2 ^ 64
    → values ≡ throttle_values 4 (four (at commands))
    → ys ≡ write (long_rows LEASE_STARTED now) (write (value_rows values) xs)
    → zs ≡ write (long_rows LEASE_OVER (d + 1)) ys
    → Moves (on_core (demanded commands now d)) xs zs
demand-parts xs commands now d n h k v e f =
    moves-at (sym (f ∙ ap (write (long_rows LEASE_OVER (d + 1))) (e ∙ ap (λ (l : List ℕ). write (long_rows LEASE_STARTED now) (write (value_rows l) xs)) v))) (demand-set xs n commands now d h k)

-- ---- what the slots say

-- whether there is something in a slot
pub some-kept : {A : Type 0} (k : ℕ) (x : A) → (k ≡ 0 → ⊥) → is_some (pick (eqb k 0) none (some x)) ≡ true
some-kept k x h = ap (λ (t : Bool). is_some (pick t none (some x))) (ne_eqb k 0 h)

pub none_kept : {A : Type 0} (k : ℕ) (x : A) → k ≡ 0 → is_some (pick (eqb k 0) none (some x)) ≡ false
none_kept k x h = ap (λ (t : Bool). is_some (pick t none (some x))) (eq-eqb k 0 h)

module _ (xs : List ℕ) where
  -- the values as a part of the slots
  pub values-part : length xs ≡ slots → four (λ (i : ℕ). at xs (VALUES + i)) ≡ take 4 (drop VALUES xs)
  values-part n =
      (λ j. entry 0 (omega arith) j ∷ entry 1 (omega arith) j ∷ entry 2 (omega arith) j ∷ entry 3 (omega arith) j ∷ [])
      ∙ four-back 0 (take 4 (drop VALUES xs)) (length-take-le 4 (drop VALUES xs) (omega (arith, length-drop VALUES xs)))
    where
      entry : (i : ℕ) → i < 4 → at xs (VALUES + i) ≡ get_or (take 4 (drop VALUES xs)) i 0
      entry i h = sym (get_or-take 4 (drop VALUES xs) i 0 h ∙ get_or-drop VALUES xs i 0)

  -- a lease
  pub lease-runs : (Memory.long LEASE_OVER (at xs) ≡ 0 → ⊥) → true ≡ is_running (load xs).core.demand
  unfolding load
  lease-runs h = on _ _ (some-kept (Memory.long LEASE_OVER (at xs)) _ h) refl

  -- without a lease, the values decide
  pub values-run : {r : Bool} → length xs ≡ slots → Memory.long LEASE_OVER (at xs) ≡ 0 → r ≡ any (ltb 0) (take 4 (drop VALUES xs)) → r ≡ is_running (load xs).core.demand
  unfolding load
  values-run n h e = off _ _ (none_kept (Memory.long LEASE_OVER (at xs)) _ h) (e ∙ ap (any (ltb 0)) (sym (values-part n)))

-- ---- a motor or none, in two lent slots

two-set : (out : List ℕ) (v w : ℕ) → length out ≡ 2 → set (set out 0 v) 1 w ≡ v ∷ w ∷ []
two-set [] v w h = absurd (omega arith)
two-set (x ∷ []) v w h = absurd (omega arith)
two-set (x ∷ y ∷ []) v w h = refl
two-set (x ∷ y ∷ z ∷ l) v w h = absurd (omega arith)

module _ (out : List ℕ) (slot : ℕ) (l : length out ≡ 2) where
  pub no-motor-told : slot ≡ 0 → set (set out 0 0) 1 0 ≡ motor_slots (choice slot)
  no-motor-told e = two-set out 0 0 l ∙ ap motor_slots (on _ _ (eq-eqb slot 0 e) refl)

  pub motor-told : (slot ≡ 0 → ⊥) → set (set out 0 1) 1 ((slot - 1) % 4) ≡ motor_slots (choice slot)
  motor-told h = two-set out 1 ((slot - 1) % 4) l ∙ ap motor_slots (off _ _ (ne_eqb slot 0 h) refl)
