-- What the port refuses, in every state. First come wrong lengths with 13 (wrong length), then a lane that does not exist with 12 (no such motor). If
-- lengths and lane are right, it refuses nothing.
-- Assumes nothing.
use mathlib.Core.Path.{◌≡◌, ◌∙◌, refl, sym, ap}
use Prim.Native.Nat.{ℕ, ◌*◌, ◌≤◌, ◌<◌}
use mathlib.Core.Bool.{Bool, true, false, false≢true}
use mathlib.Core.List.{List}
use borrow.Author.Tests.{lt-ltb, le-ltb, eq-eqb, eqb-true}
use lib.Dec.{eqb}
use lib.ListN.{length}
use Rattle.dshot_reply_spec.proofs.Choice.{not-second}
use Rattle.dshot_reply_spec.specs.Answer.{pick}
use Rattle.dshot_spec.specs.Command.{CommandRun}
use Rattle.dshot_bank_spec.specs.Calls.{command_special_call, request_telemetry_call, on_dma_interrupt_call, service_call, sending, refused, State, Stepped, told, act}
use Rattle.dshot_bank_spec.specs.Steps.{slots_fit, service_fits, length_refusal, lane_refusal, port_refusal, refuse_or, step}
use Rattle.dshot_bank_spec.proofs.LaneLaws.{on}

-- ---- the right lengths: 16 slots a lane in each sequence buffer, and 160 samples a lane

pub record SlotsFit (n first second : ℕ) : Type 0 where
  pub one : first ≡ 16 * n
  pub other : second ≡ 16 * n

pub record ServiceFit (n first second captures : ℕ) : Type 0 where
  pub slots : SlotsFit n first second
  pub samples : captures ≡ 160 * n

-- If a test holds, a type has a value. So if the type has none, the test is false.
fails : {P : Type 0} (b : Bool) → (b ≡ true → P) → (P → ⊥) → b ≡ false
fails true h no_value = absurd (no_value (h refl))
fails false h no_value = refl

module _ (n first second : ℕ) where
  slots-fit : SlotsFit n first second → slots_fit n first second ≡ true
  slots-fit h = sym (on _ _ (eq-eqb first (16 * n) h.one) (sym (eq-eqb second (16 * n) h.other)))

  fit-slots : slots_fit n first second ≡ true → SlotsFit n first second
  fit-slots e =
      let p = not-second (eqb first (16 * n)) e false≢true in
      record { one = eqb-true first (16 * n) p.0; other = eqb-true second (16 * n) p.1 }

  service-fit : (captures : ℕ) → ServiceFit n first second captures → service_fits n first second captures ≡ true
  service-fit captures h = sym (on _ _ (slots-fit h.slots) (sym (eq-eqb captures (160 * n) h.samples)))

  fit-service : (captures : ℕ) → service_fits n first second captures ≡ true → ServiceFit n first second captures
  fit-service captures e =
      let p = not-second (slots_fit n first second) e false≢true in
      record { slots = fit-slots p.0; samples = eqb-true captures (160 * n) p.1 }

-- ---- a lane

module _ (n : ℕ) (s : State) where
  -- one that there is not is refused with 12
  lane-missing : (motor : ℕ) → n ≤ motor → (r : Stepped) → refuse_or s (lane_refusal n motor) r ≡ told s (refused 12)
  lane-missing motor h r = ap (λ (t : Bool). refuse_or s (pick t 0 12) r) (le-ltb motor n h)

  -- one that there is is not refused
  pub lane-there : (motor : ℕ) → motor < n → (r : Stepped) → refuse_or s (lane_refusal n motor) r ≡ r
  lane-there motor l r = ap (λ (t : Bool). refuse_or s (pick t 0 12) r) (lt-ltb motor n l)

  -- one that there is not is refused whatever the state, by every call that takes a lane: document 01, "13, 12, then state"
  pub special-no-lane : (motor : ℕ) (sequence : CommandRun) → n ≤ motor → step n s (command_special_call motor sequence) ≡ told s (refused 12)
  unfolding step port_refusal
  special-no-lane motor sequence h = lane-missing motor h (act n s (command_special_call motor sequence))

  pub request-no-lane : (motor : ℕ) → n ≤ motor → step n s (request_telemetry_call motor) ≡ told s (refused 12)
  unfolding step port_refusal
  request-no-lane motor h = lane-missing motor h (act n s (request_telemetry_call motor))

  pub interrupt-no-lane : (motor : ℕ) (complete error turned back : Bool) → n ≤ motor
      → step n s (on_dma_interrupt_call motor complete error turned back) ≡ told s (refused 12)
  unfolding step port_refusal
  interrupt-no-lane motor complete error turned back h = lane-missing motor h (act n s (on_dma_interrupt_call motor complete error turned back))

-- ---- lengths

module _ (n : ℕ) (s : State) where
  abbrev first_length : ℕ
  first_length = length s.buffers.first

  abbrev second_length : ℕ
  second_length = length s.buffers.second

  -- the lengths are looked at first: document 01, "13, 12, then state"
  fitting : (fit : Bool) (k : ℕ) (r : Stepped) → fit ≡ true → refuse_or s (length_refusal fit k) r ≡ refuse_or s k r
  fitting fit k r e = ap (λ (t : Bool). refuse_or s (length_refusal t k) r) e

  unfitting : (fit : Bool) (k : ℕ) (r : Stepped) → fit ≡ false → refuse_or s (length_refusal fit k) r ≡ told s (refused 13)
  unfitting fit k r e = ap (λ (t : Bool). refuse_or s (length_refusal t k) r) e

  module _ (motor : ℕ) where
    -- a view with a buffer of another length, even of a lane that there is not
    pub view-unfit : (SlotsFit n first_length second_length → ⊥) → step n s (sending motor) ≡ told s (refused 13)
    unfolding step port_refusal
    view-unfit h =
        unfitting (slots_fit n first_length second_length) (lane_refusal n motor) (act n s (sending motor))
        (fails (slots_fit n first_length second_length) (fit-slots n first_length second_length) h)

    -- then a lane that there is not
    pub view-no-lane : SlotsFit n first_length second_length → n ≤ motor → step n s (sending motor) ≡ told s (refused 12)
    unfolding step port_refusal
    view-no-lane h l =
        fitting (slots_fit n first_length second_length) (lane_refusal n motor) (act n s (sending motor)) (slots-fit n first_length second_length h)
        ∙ lane-missing n s motor l (act n s (sending motor))

    -- else it is not refused
    pub view-acts : SlotsFit n first_length second_length → motor < n → step n s (sending motor) ≡ act n s (sending motor)
    unfolding step port_refusal
    view-acts h l =
        fitting (slots_fit n first_length second_length) (lane_refusal n motor) (act n s (sending motor)) (slots-fit n first_length second_length h)
        ∙ lane-there n s motor l (act n s (sending motor))

  module _ (now : ℕ) (taken present : List Bool) (masks samples : List ℕ) where
    -- a service with a buffer or captures of another length
    pub service-unfit : (ServiceFit n first_length second_length (length samples) → ⊥)
        → step n s (service_call now taken present masks samples) ≡ told s (refused 13)
    unfolding step port_refusal
    service-unfit h =
        unfitting (service_fits n first_length second_length (length samples)) 0 (act n s (service_call now taken present masks samples))
        (fails (service_fits n first_length second_length (length samples)) (fit-service n first_length second_length (length samples)) h)

    -- else it is not refused
    pub service-acts : ServiceFit n first_length second_length (length samples)
        → step n s (service_call now taken present masks samples) ≡ act n s (service_call now taken present masks samples)
    unfolding step port_refusal
    service-acts h =
        fitting (service_fits n first_length second_length (length samples)) 0 (act n s (service_call now taken present masks samples))
        (service-fit n first_length second_length (length samples) h)
