-- What a lane's completion counts, and what the last lane's completion does. For every number of lanes and every state.
-- Assumes nothing.
use mathlib.Core.Path.{◌≡◌, ◌∙◌, refl, sym, ap}
use Prim.Native.Nat.{ℕ, ◌^◌, ◌-◌, ◌<◌}
use mathlib.Core.Bool.{Bool, true, false, not}
use mathlib.Core.List.{List, [], ◌∷◌}
use borrow.Author.Tests.{eq-eqb, ne_eqb}
use lib.Dec.{eqb}
use lib.ListN.{length, get_or}
use lib.Seq.{get_or-set_same, get_or-set_other}
use Rattle.dshot_bank_spec.specs.State.{Stats, Core}
use Rattle.dshot_bank_spec.specs.Order.{Order, stop_frame, pause_and_clear, begin_receive, end_receive, latch_orders}
use Rattle.dshot_bank_spec.specs.Replies.{wrapping_add}
use Rattle.dshot_bank_spec.specs.Send.{latch_fault}
use Rattle.dshot_bank_spec.specs.Interrupt.{InterruptEvent, completed, faulted, Interrupted, lane_done, frame_done, window_opened, window_closed, opens_window, after_lane}
use Rattle.dshot_bank_spec.proofs.LaneLaws.{on, off, either}

-- ---- one lane: a frame is counted, and its window of samples is not. `on_dma_interrupt`, `if !self.receiving { .. }`

module _ (motor : ℕ) (c : Core) where
  abbrev before : List ℕ
  before = c.stats.lane_completions

  abbrev after : List ℕ
  after = (lane_done motor c).stats.lane_completions

  -- while a frame is sent, its own lane's completions are one more
  pub completion-counted : c.frame.receiving ≡ false → motor < length before → get_or after motor 0 ≡ wrapping_add (get_or before motor 0)
  unfolding lane_done
  completion-counted r l =
      ap (λ (s : Stats). get_or s.lane_completions motor 0) (sym (off _ _ r refl)) ∙ get_or-set_same before motor (wrapping_add (get_or before motor 0)) 0 l

  -- and every other lane's stay
  pub completion-of-one : c.frame.receiving ≡ false → (lane : ℕ) → (lane ≡ motor → ⊥) → get_or after lane 0 ≡ get_or before lane 0
  unfolding lane_done
  completion-of-one r lane ne =
      ap (λ (s : Stats). get_or s.lane_completions lane 0) (sym (off _ _ r refl)) ∙ get_or-set_other before motor lane (wrapping_add (get_or before motor 0)) 0 ne

  -- while replies are sampled none is counted
  pub window-uncounted : c.frame.receiving ≡ true → (lane_done motor c).stats ≡ c.stats
  unfolding lane_done
  window-uncounted r = sym (on _ _ r refl)

-- ---- what follows when a lane is done: `if self.completion_mask == ALL_MOTORS_COMPLETE { .. }`

module _ (n motor : ℕ) (complete error turned back : Bool) (c : Core) where
  abbrev answered : Interrupted
  answered = after_lane n motor complete error turned back c

  abbrev answers : InterruptEvent → List Order → Core → Interrupted
  answers e l x = record { event = e; orders = pause_and_clear motor ∷ l; core = x }

  -- before the last lane nothing does
  pub not_last : (c.frame.completion_mask ≡ 2 ^ n - 1 → ⊥) → answered ≡ answers completed [] c
  unfolding after_lane
  not_last ne = sym (on _ _ (ap not (ne_eqb c.frame.completion_mask (2 ^ n - 1) ne)) refl)

  module _ (last : c.frame.completion_mask ≡ 2 ^ n - 1) where
    is_last : not (eqb c.frame.completion_mask (2 ^ n - 1)) ≡ false
    is_last = ap not (eq-eqb c.frame.completion_mask (2 ^ n - 1) last)

    -- in a bidirectional bank the last frame opens the receive window: document 01, "four completions open the receive window"
    pub opens : c.frame.bidirectional ≡ true → c.frame.receiving ≡ false → turned ≡ true
        → answered ≡ answers completed (begin_receive ∷ []) (window_opened c)
    unfolding after_lane
    opens b r t = sym (off _ _ is_last (on _ _ (sym (on _ _ b (sym (ap not r)))) (on _ _ t refl)))

    -- a lane that cannot turn around latches a fault
    pub opens_not : c.frame.bidirectional ≡ true → c.frame.receiving ≡ false → turned ≡ false
        → answered ≡ answers faulted (begin_receive ∷ latch_orders n) (latch_fault n false c)
    unfolding after_lane
    opens_not b r t = sym (off _ _ is_last (on _ _ (sym (on _ _ b (sym (ap not r)))) (off _ _ t refl)))

    -- the last window closes it: "four more close it"
    module _ (r : c.frame.receiving ≡ true) where
      opens-no-more : opens_window c.frame ≡ false
      opens-no-more = either (λ (x : Bool). x ≡ false) c.frame.bidirectional (ap not r) refl

      pub closes : back ≡ true → answered ≡ answers completed (end_receive ∷ []) (window_closed c)
      unfolding after_lane
      closes t = sym (off _ _ is_last (off _ _ opens-no-more (on _ _ r (on _ _ t refl))))

      pub closes-not : back ≡ false → answered ≡ answers faulted (end_receive ∷ latch_orders n) (latch_fault n false c)
      unfolding after_lane
      closes-not t = sym (off _ _ is_last (off _ _ opens-no-more (on _ _ r (off _ _ t refl))))

    -- without replies the last frame ends the set
    pub ends : c.frame.bidirectional ≡ false → c.frame.receiving ≡ false → answered ≡ answers completed (stop_frame ∷ []) (frame_done c)
    unfolding after_lane
    ends b r = sym (off _ _ is_last (off _ _ (sym (off _ _ b refl)) (off _ _ r refl)))

-- ---- a window that opens or closes, and a set that ends

-- the set is still in flight, and its completions count from 0 again
pub record Opened (before after : Core) : Type 0 where
  pub receiving : after.frame.receiving ≡ true
  pub mask : after.frame.completion_mask ≡ 0
  pub busy : after.frame.busy ≡ before.frame.busy
  pub stats : after.stats ≡ before.stats

pub window-opens : (c : Core) → Opened c (window_opened c)
unfolding window_opened
window-opens c = record { receiving = refl; mask = refl; busy = refl; stats = refl }

-- the set is done and counted once
pub record Ended (before after : Core) : Type 0 where
  pub busy : after.frame.busy ≡ false
  pub counted : after.stats.frames_completed ≡ wrapping_add before.stats.frames_completed

pub set-ends : (c : Core) → Ended c (frame_done c)
unfolding frame_done
set-ends c = record { busy = refl; counted = refl }

-- and if a window closes, its replies wait
pub record Closed (before after : Core) : Type 0 where
  pub ended : Ended before after
  pub receiving : after.frame.receiving ≡ false
  pub waiting : after.frame.replies_waiting ≡ true

pub window-closes : (c : Core) → Closed c (window_closed c)
unfolding window_closed frame_done
window-closes c = record { ended = record { busy = refl; counted = refl }; receiving = refl; waiting = refl }

-- a set that ends without a window leaves what waits as it was
pub ends-unread : (c : Core) → (frame_done c).frame.replies_waiting ≡ c.frame.replies_waiting
unfolding frame_done
ends-unread c = refl
