-- What a latched fault clears, and that a faulted bank sends nothing. For every number of lanes and every state.
-- Assumes nothing.
use mathlib.Core.Path.{◌≡◌, refl, sym}
use Prim.Native.Nat.{ℕ}
use mathlib.Core.Bool.{Bool, true, false}
use mathlib.Core.List.{List, [], ◌∷◌}
use mathlib.Core.Option.{none}
use Rattle.dshot_bank_spec.specs.State.{Core, LaneReply, Buffers}
use Rattle.dshot_bank_spec.specs.Order.{pause_and_clear}
use Rattle.dshot_bank_spec.specs.Commands.{command_stop, clear_request_sent}
use Rattle.dshot_bank_spec.specs.Replies.{wrapping_add}
use Rattle.dshot_bank_spec.specs.Send.{latch_fault}
use Rattle.dshot_bank_spec.specs.Interrupt.{on_dma_interrupt}
use Rattle.dshot_bank_spec.specs.Interrupt as Interrupt
use Rattle.dshot_bank_spec.specs.Service.{service_core}
use Rattle.dshot_bank_spec.specs.Service as Service
use Rattle.dshot_bank_spec.proofs.LaneLaws.{on, off}
use Rattle.dshot_bank_spec.proofs.ThrottleLaws.{Stopped, zeros}

-- ---- what a latched fault clears: `latch_fault`

pub record Latched (after : Core) : Type 0 where
  pub faulted : after.frame.faulted ≡ true
  pub busy : after.frame.busy ≡ false
  pub receiving : after.frame.receiving ≡ false
  pub waiting : after.frame.replies_waiting ≡ false
  pub request : after.telemetry.request ≡ none
  pub request_sent : after.telemetry.request_sent ≡ none
  pub run : after.command_sequence ≡ none
  pub stopped : Stopped after.demand

pub latch-clears : (n : ℕ) (spurious : Bool) (c : Core) → Latched (latch_fault n spurious c)
unfolding latch_fault command_stop
latch-clears n spurious c = record {
  faulted = refl;
  busy = refl;
  receiving = refl;
  waiting = refl;
  request = refl;
  request_sent = refl;
  run = refl;
  stopped = record { lease = refl; values = zeros n };
}

module _ (n : ℕ) (spurious : Bool) (c : Core) where
  -- a fault is counted when it is new
  pub fault-counted : c.frame.faulted ≡ false → (latch_fault n spurious c).stats.dma_faults ≡ wrapping_add c.stats.dma_faults
  unfolding latch_fault command_stop
  fault-counted f = sym (off _ _ f refl)

  pub fault-counted-once : c.frame.faulted ≡ true → (latch_fault n spurious c).stats.dma_faults ≡ c.stats.dma_faults
  unfolding latch_fault command_stop
  fault-counted-once f = sym (on _ _ f refl)

-- a spurious interrupt is counted as one, and any other fault is not
pub spurious-counted : (n : ℕ) (c : Core) → (latch_fault n true c).stats.spurious_interrupts ≡ wrapping_add c.stats.spurious_interrupts
unfolding latch_fault command_stop
spurious-counted n c = refl

pub spurious-uncounted : (n : ℕ) (c : Core) → (latch_fault n false c).stats.spurious_interrupts ≡ c.stats.spurious_interrupts
unfolding latch_fault command_stop
spurious-uncounted n c = refl

-- ---- a faulted bank: document 01, both calls look for a fault first

module _ (c : Core) (f : c.frame.faulted ≡ true) where
  -- a service orders nothing and leaves replies and buffers; only the request that was sent is cleared
  pub faulted-serves : (n now : ℕ) (taken present : List Bool) (masks samples : List ℕ) (replies : List LaneReply) (buffers : Buffers)
      → service_core n now taken present masks samples replies buffers c
      ≡ record { event = Service.faulted; orders = []; bank = record { core = clear_request_sent c; replies = replies }; buffers = buffers }
  unfolding service_core clear_request_sent
  faulted-serves n now taken present masks samples replies buffers = sym (on _ _ f refl)

  -- an interrupt is cleared at its stream, and changes nothing
  pub faulted-interrupts : (n motor : ℕ) (complete error turned back : Bool)
      → on_dma_interrupt n motor complete error turned back c ≡ record { event = Interrupt.faulted; orders = pause_and_clear motor ∷ []; core = c }
  unfolding on_dma_interrupt
  faulted-interrupts n motor complete error turned back = sym (on _ _ f refl)
