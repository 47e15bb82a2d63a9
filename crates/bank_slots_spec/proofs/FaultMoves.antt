-- What the steps that calls share write, and what that does to the bank in the slots. They are those of a stop, a run and a latched fault.
-- Assumes nothing.
use mathlib.Core.Path.{◌≡◌, ◌∙◌, refl, sym, ap}
use mathlib.Core.Bool.{Bool, true, false, not}
use mathlib.Core.List.{List, [], ◌∷◌, ◌++◌}
use mathlib.Core.Option.{Option, none, some}
use Prim.Native.Nat.{ℕ, ◌+◌, ◌<◌}
use lib.Dec.{eqb}
use lib.ListN.{length}
use Rattle.dshot_reply_spec.specs.Answer.{pick}
use Rattle.dshot_spec.specs.Command.{CommandRun}
use Rattle.dshot_bank_spec.specs.State.{Stats, MotorRun, Core}
use Rattle.dshot_bank_spec.specs.Replies.{wrapping_add}
use Rattle.dshot_bank_spec.specs.With.{with_dma_faults, with_spurious_interrupts, with_command_sequence, with_stats, with_core}
use Rattle.dshot_bank_spec.specs.Commands.{command_stop, clear_request_sent, cancel_telemetry_request}
use Rattle.dshot_bank_spec.specs.Send.{count_fault, latch_fault}
use Rattle.bank_slots_spec.specs.Memory.{Row, ◌holds◌, at, write, word, word_rows}
use Rattle.bank_slots_spec.specs.Places.{slots, VALUES, LEASE_OVER, REQUEST, REQUEST_SENT, RUN, BUSY, FAULTED, RECEIVING, REPLIES_WAITING, DMA_FAULTS, SPURIOUS}
use Rattle.bank_slots_spec.specs.Load.{bank_at, load, four}
use Rattle.bank_slots_spec.specs.Store.{run_rows}
use Rattle.bank_slots_spec.specs.Storable.{RunFits}
use Rattle.bank_slots_spec.specs.Moves.{Moves, on_core}
use Rattle.bank_slots_spec.specs.Parts.{bumped, queued, fault_counted, flags_latched, requests_cleared}
use Rattle.bank_slots_spec.proofs.MemoryLaws.{length-write}
use Rattle.bank_slots_spec.proofs.MoveLaws.{moves-write, moves-then, moves-as, moves-at, stays, counted}
use Rattle.bank_slots_spec.proofs.FieldLaws.{run-back, run-written}

-- zeros from slot k
abbrev pub zeros : ℕ → List Row
zeros k = four (λ (i : ℕ). k + i holds 0)

abbrev pub stop_rows : List Row
stop_rows = zeros VALUES ++ zeros LEASE_OVER

abbrev pub latch_rows : List Row
latch_rows = (FAULTED holds 1) ∷ (BUSY holds 0) ∷ (RECEIVING holds 0) ∷ (REPLIES_WAITING holds 0) ∷ []

abbrev run_cleared : List Row
run_cleared = (RUN holds 0) ∷ (RUN + 1 holds 0) ∷ (RUN + 2 holds 0) ∷ (RUN + 3 holds 0) ∷ (RUN + 4 holds 0) ∷ []

module _ (xs : List ℕ) (n : length xs ≡ slots) where
  pub sent-cleared : Moves (on_core clear_request_sent) xs (write ((REQUEST_SENT holds 0) ∷ []) xs)
  unfolding clear_request_sent
  sent-cleared = moves-write ((REQUEST_SENT holds 0) ∷ []) xs n refl refl (λ w. (w.0, (w.1.0, ((w.1.1.0.0, refl, w.1.1.0.2), w.1.1.1))))

  pub request-cleared : Moves (on_core cancel_telemetry_request) xs (write ((REQUEST holds 0) ∷ []) xs)
  unfolding cancel_telemetry_request
  request-cleared = moves-write ((REQUEST holds 0) ∷ []) xs n refl refl (λ w. (w.0, (w.1.0, ((refl, w.1.1.0.1, w.1.1.0.2), w.1.1.1))))

  pub run-cleared : Moves (on_core (with_command_sequence none)) xs (write run_cleared xs)
  run-cleared = moves-write run_cleared xs n refl refl (λ w. (w.0, (w.1.0, ((w.1.1.0.0, w.1.1.0.1, refl), w.1.1.1))))

  pub run-put : (motor : ℕ) (s : CommandRun) → motor < 4 → length s.commands ≡ 2 → s.index < 256 → s.repeats_left < 256
      → Moves (on_core (queued motor s)) xs (write (run_rows (some (record { motor = motor; sequence = s }))) xs)
  run-put motor s h two index left =
      let r : MotorRun = record { motor = motor; sequence = s } in
      let fits : RunFits r = record { motor = h; two = two; index = index; left = left } in
      moves-write (run_rows (some r)) xs n refl
      (ap (λ (o : Option MotorRun). on_core (with_command_sequence o) (bank_at (at xs))) (run-back (some r) fits))
      (λ w. (w.0, (w.1.0, ((w.1.1.0.0, w.1.1.0.1, run-written (some r) fits), w.1.1.1))))

  pub stopped : Moves (on_core (command_stop 4)) xs (write stop_rows xs)
  unfolding command_stop
  stopped = moves-write stop_rows xs n refl refl (λ w. w)

  pub flags-latched : Moves (on_core flags_latched) xs (write latch_rows xs)
  flags-latched = moves-write latch_rows xs n refl refl (λ w. ((refl, refl, w.0.2, refl, refl, w.0.5), w.1))

-- the two counts of a fault
abbrev dma_counted : Core → Core
dma_counted c = with_stats (with_dma_faults (wrapping_add c.stats.dma_faults) c.stats) c

abbrev spurious_counted : Core → Core
spurious_counted c = with_stats (with_spurious_interrupts (wrapping_add c.stats.spurious_interrupts) c.stats) c

-- a step on the core, or none
abbrev pub core_pick : Bool → (Core → Core) → Core → Core
core_pick b f c = pick b (f c) c

pub twice : (b : Bool) → not (not b) ≡ b
twice true = refl
twice false = refl

length-bumped : (b : Bool) (k : ℕ) (xs : List ℕ) → length (pick b (bumped k xs) xs) ≡ length xs
length-bumped true k xs = length-write (word_rows k (wrapping_add (word k (at xs)))) xs
length-bumped false k xs = refl

-- a count that is raised if a test holds
pub bumped-if : (f : Core → Core) (b : Bool) (k : ℕ) (xs : List ℕ) → Moves (on_core f) xs (bumped k xs) → Moves (on_core (core_pick b f)) xs (pick b (bumped k xs) xs)
bumped-if f true k xs m = m
bumped-if f false k xs m = stays refl

fault-counts : (faulted spurious : Bool) (c : Core) → c.frame.faulted ≡ faulted → core_pick spurious spurious_counted (core_pick (not faulted) dma_counted c) ≡ fault_counted spurious c
fault-counts true true c e = ap (λ (f : Bool). with_stats (count_fault f true c.stats) c) (sym e)
fault-counts true false c e = ap (λ (f : Bool). with_stats (count_fault f false c.stats) c) (sym e)
fault-counts false true c e = ap (λ (f : Bool). with_stats (count_fault f true c.stats) c) (sym e)
fault-counts false false c e = ap (λ (f : Bool). with_stats (count_fault f false c.stats) c) (sym e)

module _ (xs ys zs : List ℕ) (n : length xs ≡ slots) where
  -- The first fault is counted once. If an interrupt was spurious, that is counted too.
  pub fault-counted : (first spurious : Bool) → first ≡ eqb (at xs FAULTED) 0
      → ys ≡ pick first (bumped DMA_FAULTS xs) xs → zs ≡ pick spurious (bumped SPURIOUS ys) ys → Moves (on_core (fault_counted spurious)) xs zs
  unfolding load
  fault-counted first spurious t e q =
      let l : length ys ≡ slots = ap length e ∙ length-bumped first DMA_FAULTS xs ∙ n in
      let one : Moves (on_core (core_pick first dma_counted)) xs ys = moves-at (sym e) (bumped-if dma_counted first DMA_FAULTS xs (counted xs n DMA_FAULTS with_dma_faults (λ (s : Stats). s.dma_faults) refl (λ v. refl) refl (λ w. w))) in
      let two : Moves (on_core (core_pick spurious spurious_counted)) ys zs = moves-at (sym q) (bumped-if spurious_counted spurious SPURIOUS ys (counted ys l SPURIOUS with_spurious_interrupts (λ (s : Stats). s.spurious_interrupts) refl (λ v. refl) refl (λ w. w))) in
      moves-as (moves-then one two) (ap (λ (b : Bool). on_core (λ (c : Core). core_pick spurious spurious_counted (core_pick b dma_counted c)) (load xs)) (t ∙ sym (twice (eqb (at xs FAULTED) 0)))
      ∙ ap (λ (c : Core). with_core c (load xs)) (fault-counts (load xs).core.frame.faulted spurious (load xs).core refl))

-- what is asked for cleared: the pending request, the one that was sent, and the run
pub requests-cleared : {us vs ws xs : List ℕ} → Moves (on_core cancel_telemetry_request) us vs → Moves (on_core clear_request_sent) vs ws → Moves (on_core (with_command_sequence none)) ws xs → Moves (on_core requests_cleared) us xs
unfolding cancel_telemetry_request clear_request_sent
requests-cleared a b c = moves-as (moves-then a (moves-then b c)) refl

-- the four parts of a latched fault
pub fault-latched : {us vs ws xs ys : List ℕ} (spurious : Bool) → Moves (on_core (fault_counted spurious)) us vs → Moves (on_core flags_latched) vs ws → Moves (on_core requests_cleared) ws xs → Moves (on_core (command_stop 4)) xs ys
    → Moves (on_core (latch_fault 4 spurious)) us ys
unfolding latch_fault
fault-latched spurious a b c d = moves-as (moves-then a (moves-then b (moves-then c d))) refl
