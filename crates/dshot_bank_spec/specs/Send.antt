-- A latched fault, and the sending of a frame set: the exchange of the buffers, and the start.
-- Stands for `latch_fault` and `send_requested` of crates/ferrowasp-stm32-critical/src/dshot_bank.rs (Eirik2020/ferro-wasp, commit 9cb8aca1a6,
-- Copyright (c) 2026 Kaldstrand, Apache-2.0), changed: rewritten as definitions, over n lanes. Two buffers and a mark per lane stand for the source's
-- exchanged buffers, so no spare can be missing.
-- Assumes nothing.
use Rattle.std.specs.Prelude.{ℕ, Bool, true, false, not, List, ltb, get_or, if◌then◌else◌}
use Rattle.std.proofs.Math.Option.{Option, none}
use Rattle.dshot_spec.specs.Tabulate.{tabulate}
use Rattle.dshot_bank_spec.specs.Lanes.{position, is_some}
use Rattle.dshot_bank_spec.specs.State.{Telemetry, Stats, Core, Buffers}
use Rattle.dshot_bank_spec.specs.With.{with_frames_started, with_dma_faults, with_spurious_interrupts, with_started_ms, with_completion_mask, with_busy, with_faulted, with_receiving, with_replies_waiting, with_in_second, with_telemetry, with_command_sequence, with_frame, with_stats}
use Rattle.dshot_bank_spec.specs.Order.{Order, start_orders, refused_orders}
use Rattle.dshot_bank_spec.specs.Commands.{command_stop, next_command_frame}
use Rattle.dshot_bank_spec.specs.Replies.{wrapping_add}
use Rattle.dshot_bank_spec.specs.FrameSet.{next_set, packets_sent, first_duties, encode_lanes}

-- ---- a fault

-- the counts after a fault: a fault that is latched again is not counted again
abbrev pub count_fault : Bool → Bool → Stats → Stats
count_fault faulted spurious s =
    with_spurious_interrupts (if spurious then wrapping_add s.spurious_interrupts else s.spurious_interrupts)
    (with_dma_faults (if faulted then s.dma_faults else wrapping_add s.dma_faults) s)

-- the Rust's `latch_fault`; its orders are `latch_orders`
unfoldable pub latch_fault : ℕ → Bool → Core → Core
latch_fault n spurious c =
    command_stop n
    (with_command_sequence none
    (with_telemetry (record { request = none; request_sent = none })
    (with_frame (with_replies_waiting false (with_receiving false (with_busy false (with_faulted true c.frame))))
    (with_stats (count_fault c.frame.faulted spurious c.stats) c))))

-- ---- the exchange

-- The marks of the first lanes turn: what they sent is now spare, and their spare is sent.
abbrev pub turn_marks : ℕ → ℕ → List Bool → List Bool
turn_marks n turned in_second = tabulate n (λ i. if ltb i turned then not (get_or in_second i false) else get_or in_second i false)

-- whether a frame set started, the orders, and the core after the call
pub record Sent : Type 0 where
  pub started : Bool
  pub orders : List Order
  pub core : Core

-- Lane k refuses its buffer. The lanes before it have turned.
unfoldable pub exchange_refused : ℕ → ℕ → Core → Sent
exchange_refused n k c = record {
  started = false;
  orders = refused_orders n k;
  core = latch_fault n false (with_frame (with_in_second (turn_marks n k c.frame.in_second) c.frame) c);
}

-- If the frame carries a request, the request is sent and no longer pending.
abbrev pub carry : Option ℕ → Telemetry → Telemetry
carry request t = if is_some request then record { request = none; request_sent = request } else t

-- the core after a frame set has started
unfoldable pub frame_started : ℕ → ℕ → Option ℕ → Core → Core
frame_started n now request c =
    with_telemetry (carry request c.telemetry)
    (with_stats (with_frames_started (wrapping_add c.stats.frames_started) c.stats)
    (with_frame (with_busy true (with_completion_mask 0 (with_started_ms now (with_in_second (turn_marks n n c.frame.in_second) c.frame)))) c))

-- The exchange of the buffers. `taken` has the hardware's answer for each lane: whether it took its buffer.
unfoldable pub exchange_buffers : ℕ → ℕ → List Bool → Option ℕ → List ℕ → Core → Sent
exchange_buffers n now taken request duties c =
    if ltb (position not taken) n then exchange_refused n (position not taken) c else
    record { started = true; orders = start_orders n duties; core = frame_started n now request c }

-- the Rust's `send_requested`
unfoldable pub send_requested : ℕ → ℕ → List Bool → Core → Sent
send_requested n now taken c =
    exchange_buffers n now taken (next_set n c).telemetry_request (first_duties n c.timing (packets_sent n c))
    (with_command_sequence (next_command_frame c).left c)

-- the buffers after sending; all lanes are written before the first exchange
abbrev pub sent_buffers : ℕ → Core → Buffers → Buffers
sent_buffers n c b = encode_lanes n c.timing c.frame.in_second (packets_sent n c) b
