-- When `enable_bidirectional` is refused, what it changes, and that `is_bidirectional` says so. For every state.
-- Assumes nothing.
use mathlib.Core.Path.{◌≡◌, refl}
use Prim.Native.Nat.{ℕ}
use mathlib.Core.Bool.{true, false}
use Rattle.dshot_bank_spec.specs.With.{with_frame, with_bidirectional}
use Rattle.dshot_bank_spec.specs.Commands.{enable_bidirectional}
use Rattle.dshot_bank_spec.specs.Calls.{enable_bidirectional_call, is_bidirectional, done, refused, flag, State, told, changed}
use Rattle.dshot_bank_spec.specs.Steps.{port_refusal, step}

module _ (n : ℕ) (s : State) where
  -- document 01: "22 lanes cannot receive"
  pub enable-refused : step n s (enable_bidirectional_call false) ≡ told s (refused 22)
  unfolding step port_refusal enable_bidirectional
  enable-refused = refl

  -- lanes that can receive turn the bank, whatever its state, and nothing else changes
  pub enable-done : step n s (enable_bidirectional_call true)
      ≡ changed s done (with_frame (with_bidirectional true s.bank.core.frame) s.bank.core)
  unfolding step port_refusal enable_bidirectional
  enable-done = refl

  -- `is_bidirectional` then says yes
  pub enabled-told : (step n (step n s (enable_bidirectional_call true)).state is_bidirectional).answer ≡ flag true
  unfolding step port_refusal enable_bidirectional
  enabled-told = refl
