-- Which DMA interrupt is due, and that any other latches a fault. For every number of lanes and every state.
-- Assumes nothing.
use mathlib.Core.Path.{◌≡◌, ◌∙◌, refl, sym, ap}
use Prim.Native.Nat.{ℕ, zero, ◌+◌, ◌*◌, ◌/◌, ◌%◌, min, max}
use mathlib.Core.Bool.{Bool, true, false, not}
use mathlib.Core.List.{◌∷◌}
use native.Mathlib.Omega.{arith}
use borrow.Author.Tests.{ne_eqb}
use lib.Arith.{bin_ind}
use lib.Bits.{bit_and, bit_or, and_step, or_step, and_zero_r}
use lib.Dec.{eqb}
use lib.Pow.{pow_pos}
use Rattle.dshot_bank_spec.specs.State.{Core}
use Rattle.dshot_bank_spec.specs.Order.{pause_and_clear, latch_orders}
use Rattle.dshot_bank_spec.specs.Send.{latch_fault}
use Rattle.dshot_bank_spec.specs.Interrupt.{InterruptEvent, faulted, spurious, Interrupted, completion_bit, is_complete, lane_done, after_lane, on_dma_interrupt}
use Rattle.dshot_bank_spec.proofs.LaneLaws.{on, off}

-- ---- the checks in their order: document 01, "faulted; not busy or lane done already (Spurious); DMA error (Faulted); transfer not complete (Spurious)"

module _ (n motor : ℕ) (complete error turned back : Bool) (c : Core) (f : c.frame.faulted ≡ false) where
  abbrev answered : Interrupted
  answered = on_dma_interrupt n motor complete error turned back c

  -- its stream is paused and cleared, then outputs are forced low and every stream is
  abbrev latches : Bool → InterruptEvent → Interrupted
  latches is_spurious e = record { event = e; orders = pause_and_clear motor ∷ latch_orders n; core = latch_fault n is_spurious c }

  -- no frame is in flight
  pub idle-spurious : c.frame.busy ≡ false → answered ≡ latches true spurious
  unfolding on_dma_interrupt
  idle-spurious b = sym (off _ _ f (on _ _ (ap not b) refl))

  module _ (b : c.frame.busy ≡ true) where
    -- the lane is done already
    pub done-spurious : is_complete motor c.frame.completion_mask ≡ true → answered ≡ latches true spurious
    unfolding on_dma_interrupt
    done-spurious d = sym (off _ _ f (off _ _ (ap not b) (on _ _ d refl)))

    module _ (d : is_complete motor c.frame.completion_mask ≡ false) where
      -- an error, whether the transfer is complete or not
      pub error-faults : error ≡ true → answered ≡ latches false faulted
      unfolding on_dma_interrupt
      error-faults e = sym (off _ _ f (off _ _ (ap not b) (off _ _ d (on _ _ e refl))))

      -- the transfer is not complete
      pub incomplete-spurious : error ≡ false → complete ≡ false → answered ≡ latches true spurious
      unfolding on_dma_interrupt
      incomplete-spurious e t = sym (off _ _ f (off _ _ (ap not b) (off _ _ d (off _ _ e (on _ _ (ap not t) refl)))))

      -- else it is due: the lane is done
      pub due : error ≡ false → complete ≡ true → answered ≡ after_lane n motor complete error turned back (lane_done motor c)
      unfolding on_dma_interrupt
      due e t = sym (off _ _ f (off _ _ (ap not b) (off _ _ d (off _ _ e (off _ _ (ap not t) refl)))))

-- ---- a lane that is done is found done

-- a number has the bits that were put into it
absorb : (b a : ℕ) → bit_and (bit_or a b) b ≡ b
absorb = bin_ind (λ (b : ℕ). (a : ℕ) → bit_and (bit_or a b) b ≡ b) (λ a. and_zero_r (bit_or a zero)) (λ b ih a. halves b a (ih (a / 2)))
  where
    halves : (b a : ℕ) → bit_and (bit_or (a / 2) (b / 2)) (b / 2) ≡ b / 2 → bit_and (bit_or a b) b ≡ b
    halves b a h =
        let s = or_step a b in
        let half : bit_or a b / 2 ≡ bit_or (a / 2) (b / 2) = omega arith in
        let odd : bit_or a b % 2 ≡ max (a % 2) (b % 2) = omega arith in
        and_step (bit_or a b) b ∙ ap (λ (x : ℕ). bit_and x (b / 2) * 2 + min (bit_or a b % 2) (b % 2)) half ∙ omega arith

pub done-complete : (motor : ℕ) (c : Core) → is_complete motor (lane_done motor c).frame.completion_mask ≡ true
unfolding lane_done
done-complete motor c =
    let bit = completion_bit motor in
    ap (λ (x : ℕ). not (eqb x 0)) (absorb bit c.frame.completion_mask) ∙ ap not (ne_eqb bit 0 (λ e. omega (arith, pow_pos motor)))
