-- What `command_throttles` refuses and sets, and what `command_stop` leaves. For every state and all throttles.
-- Assumes nothing.
use mathlib.Core.Path.{◌≡◌, ◌∙◌, refl, sym, ap}
use Prim.Native.Nat.{ℕ, ◌<◌, ◌≤◌}
use mathlib.Core.Bool.{true, false, not}
use mathlib.Core.List.{List}
use mathlib.Core.Option.{none, some}
use native.Mathlib.Omega.{arith}
use borrow.Author.Tests.{lt-ltb, le-ltb}
use lib.Dec.{ltb}
use lib.ListN.{length, get_or, replicate, length-replicate, get_or-replicate}
use Rattle.dshot_reply_spec.specs.Answer as Reply
use Rattle.dshot_spec.specs.Throttle.{throttle_values}
use Rattle.dshot_bank_spec.specs.Lanes.{any}
use Rattle.dshot_bank_spec.specs.State.{Demand, Core}
use Rattle.dshot_bank_spec.specs.With.{with_demand}
use Rattle.dshot_bank_spec.specs.Commands.{any_requested, command_stop, command_throttles}
use Rattle.dshot_bank_spec.specs.Calls.{command_stop_call, command_throttles_call, done, refused, State, Stepped, told, changed, commanded}
use Rattle.dshot_bank_spec.specs.Steps.{port_refusal, step}
use Rattle.dshot_bank_spec.proofs.LaneLaws.{on, off, either, any_at, none-at}

-- one number of a list is above b
pub one-above : (b : ℕ) (v : List ℕ) (i : ℕ) → i < length v → b < get_or v i 0 → any (ltb b) v ≡ true
one-above b v i l h = sym (any_at (ltb b) 0 v i l (lt-ltb b (get_or v i 0) h))

-- none is
pub none_above : (b : ℕ) (v : List ℕ) → ((i : ℕ) → i < length v → get_or v i 0 ≤ b) → any (ltb b) v ≡ false
none_above b v h = sym (none-at (ltb b) 0 v (λ i l. le-ltb b (get_or v i 0) (h i l)))

-- no lease, and every value 0
pub record Stopped (d : Demand) : Type 0 where
  pub lease : d.lease_duration_ms ≡ none
  pub values : (i : ℕ) → i < length d.requested_values → get_or d.requested_values i 0 ≡ 0

-- every value of a list of zeros is 0
pub zeros : (n i : ℕ) → i < length {A = ℕ} (replicate n 0) → get_or {A = ℕ} (replicate n 0) i 0 ≡ 0
zeros n i l = get_or-replicate n i 0 0 (omega (arith, length-replicate {A = ℕ} n 0))

-- ---- command_throttles

-- what throttles set
abbrev pub demanded : ℕ → List ℕ → ℕ → ℕ → Demand
demanded n commands now lease = record { requested_values = throttle_values n commands; lease_started_ms = now; lease_duration_ms = some lease }

module _ (n : ℕ) (s : State) (commands : List ℕ) (now lease : ℕ) where
  abbrev throttled : Stepped
  throttled = step n s (command_throttles_call commands now lease)

  -- a faulted bank refuses them with 18 whatever they are: document 01, "state in the order 18 to 22, then the rest by number"
  pub throttles-faulted : s.bank.core.frame.faulted ≡ true → throttled ≡ told s (refused 18)
  unfolding step port_refusal command_throttles
  throttles-faulted f = ap (commanded s) (sym (on _ _ f refl))

  module _ (f : s.bank.core.frame.faulted ≡ false) where
    module _ (low : (i : ℕ) → i < length commands → get_or commands i 0 ≤ 2000) where
      -- without a fault throttles of up to 2000 are taken
      pub throttles-taken : throttled.answer ≡ done
      unfolding step port_refusal command_throttles
      throttles-taken =
          ap (λ (a : Reply.Answer Core). (commanded s a).answer) (sym (off _ _ f (off _ _ (none_above 2000 commands low) refl)))
          ∙ either (λ (a : Reply.Answer Core). (commanded s a).answer ≡ done) (not (any_requested commands)) refl refl

      -- with one above 0 they are the demand, for a lease from this clock on, and nothing else changes
      pub throttles-set : (i : ℕ) → i < length commands → 0 < get_or commands i 0
          → throttled ≡ changed s done (with_demand (demanded n commands now lease) s.bank.core)
      unfolding step port_refusal command_throttles
      throttles-set i l h =
          ap (commanded s) (sym (off _ _ f (off _ _ (none_above 2000 commands low) (off _ _ (ap not (one-above 0 commands i l h)) refl))))

    -- throttles of 0 are a stop: they set no lease
    pub throttles-zero : ((i : ℕ) → i < length commands → get_or commands i 0 ≡ 0) → throttled ≡ step n s command_stop_call
    unfolding step port_refusal command_throttles
    throttles-zero z =
        let low = none_above 2000 commands (λ i l. omega (arith, z i l)) in
        let zero = none_above 0 commands (λ i l. omega (arith, z i l)) in
        ap (commanded s) (sym (off _ _ f (off _ _ low (on _ _ (ap not zero) refl))))

    -- and one above 2000 is refused with 6
    pub throttles-high : (i : ℕ) → i < length commands → 2000 < get_or commands i 0 → throttled ≡ told s (refused 6)
    unfolding step port_refusal command_throttles
    throttles-high i l h = ap (commanded s) (sym (off _ _ f (on _ _ (one-above 2000 commands i l h) refl)))

-- ---- command_stop

module _ (n : ℕ) (s : State) where
  -- a stop is never refused: document 01, 18 is for "throttles, command run and telemetry request only"
  pub stop-done : (step n s command_stop_call).answer ≡ done
  unfolding step port_refusal
  stop-done = refl

  -- after it the value of every lane is 0
  pub stop-values : (lane : ℕ) → lane < n → get_or (step n s command_stop_call).state.bank.core.demand.requested_values lane 1 ≡ 0
  unfolding step port_refusal command_stop
  stop-values lane l = get_or-replicate n lane 0 1 l

  -- and there is no lease
  pub stop-stops : Stopped (step n s command_stop_call).state.bank.core.demand
  unfolding step port_refusal command_stop
  stop-stops = record { lease = refl; values = zeros n }
