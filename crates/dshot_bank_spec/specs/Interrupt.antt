-- One DMA interrupt: a lane's stream has completed or failed. If it is the last lane's, the set goes on or ends.
-- Stands for `on_dma_interrupt` of crates/ferrowasp-stm32-critical/src/dshot_bank.rs (Eirik2020/ferro-wasp, commit 9cb8aca1a6, Copyright (c) 2026
-- Kaldstrand, Apache-2.0), changed: rewritten as definitions, over n lanes. The hardware's answers are parameters.
-- Assumes nothing.
use Rattle.std.specs.Prelude.{ℕ, ◌-◌, ◌^◌, Bool, true, false, not, List, [], ◌∷◌, ◌++◌, eqb, get_or, set, if◌then◌else◌}
use Rattle.std.specs.Int.Bits.{bit_and, bit_or}
use Rattle.dshot_bank_spec.specs.State.{Frame, Stats, Core}
use Rattle.dshot_bank_spec.specs.With.{with_frames_completed, with_lane_completions, with_completion_mask, with_busy, with_receiving, with_replies_waiting, with_frame, with_stats}
use Rattle.dshot_bank_spec.specs.Order.{Order, stop_frame, pause_and_clear, begin_receive, end_receive, latch_orders}
use Rattle.dshot_bank_spec.specs.Replies.{wrapping_add}
use Rattle.dshot_bank_spec.specs.Send.{latch_fault}

-- the Rust's `DshotInterruptEvent`
pub data InterruptEvent : Type 0 where
  completed : InterruptEvent
  faulted : InterruptEvent
  spurious : InterruptEvent

-- what a call answers, orders and leaves
pub record Interrupted : Type 0 where
  pub event : InterruptEvent
  pub orders : List Order
  pub core : Core

abbrev pub completion_bit : ℕ → ℕ
completion_bit motor = 2 ^ motor

-- the Rust's `ALL_MOTORS_COMPLETE`
abbrev pub all_complete : ℕ → ℕ
all_complete n = 2 ^ n - 1

-- the Rust's `self.completion_mask & completion_bit != 0`
abbrev pub is_complete : ℕ → ℕ → Bool
is_complete motor mask = not (eqb (bit_and mask (completion_bit motor)) 0)

abbrev pub count_completion : ℕ → Stats → Stats
count_completion motor s = with_lane_completions (set s.lane_completions motor (wrapping_add (get_or s.lane_completions motor 0))) s

-- A lane's stream has completed. Only a transmission is counted, and not a window of samples.
unfoldable pub lane_done : ℕ → Core → Core
lane_done motor c =
    with_stats (if c.frame.receiving then c.stats else count_completion motor c.stats)
    (with_frame (with_completion_mask (bit_or c.frame.completion_mask (completion_bit motor)) c.frame) c)

-- the frame set is done
unfoldable pub frame_done : Core → Core
frame_done c = with_stats (with_frames_completed (wrapping_add c.stats.frames_completed) c.stats) (with_frame (with_busy false c.frame) c)

-- The receive window opens, and no lane is done yet.
unfoldable pub window_opened : Core → Core
window_opened c = with_frame (with_completion_mask 0 (with_receiving true c.frame)) c

-- The receive window closes, and its replies wait to be decoded.
unfoldable pub window_closed : Core → Core
window_closed c = frame_done (with_frame (with_replies_waiting true (with_receiving false c.frame)) c)

-- the Rust's `self.bidirectional && !self.receiving`
abbrev pub opens_window : Frame → Bool
opens_window f = if f.bidirectional then not f.receiving else false

-- The hardware's answers. `turned`: whether every lane turned to receive. `back`: whether every lane turned back.
module _ (n motor : ℕ) (complete error turned back : Bool) where
  abbrev pub interrupted : InterruptEvent → List Order → Core → Interrupted
  interrupted e l c = record { event = e; orders = pause_and_clear motor ∷ l; core = c }

  abbrev pub latched : Bool → InterruptEvent → List Order → Core → Interrupted
  latched is_spurious e l c = interrupted e (l ++ latch_orders n) (latch_fault n is_spurious c)

  -- the Rust's `if self.completion_mask == ALL_MOTORS_COMPLETE { .. }`
  unfoldable pub after_lane : Core → Interrupted
  after_lane c =
      if not (eqb c.frame.completion_mask (all_complete n)) then interrupted completed [] c else
      if opens_window c.frame then
      (if turned then interrupted completed (begin_receive ∷ []) (window_opened c) else latched false faulted (begin_receive ∷ []) c) else
      if c.frame.receiving then
      (if back then interrupted completed (end_receive ∷ []) (window_closed c) else latched false faulted (end_receive ∷ []) c) else
      interrupted completed (stop_frame ∷ []) (frame_done c)

  -- the Rust's `on_dma_interrupt`
  unfoldable pub on_dma_interrupt : Core → Interrupted
  on_dma_interrupt c =
      if c.frame.faulted then interrupted faulted [] c else
      if not c.frame.busy then latched true spurious [] c else
      if is_complete motor c.frame.completion_mask then latched true spurious [] c else
      if error then latched false faulted [] c else
      if not complete then latched true spurious [] c else
      after_lane (lane_done motor c)
