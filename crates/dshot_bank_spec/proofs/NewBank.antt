-- What a new bank answers, for every number of lanes, every timing and every two buffers.
-- Assumes nothing.
use mathlib.Core.Path.{◌≡◌, refl}
use Prim.Native.Nat.{ℕ, ◌<◌}
use mathlib.Core.Bool.{false}
use mathlib.Core.Option.{none}
use lib.ListN.{length, get_or, replicate, get_or-replicate}
use Rattle.dshot_reply_spec.specs.Answer as Reply
use Rattle.dshot_spec.specs.Tabulate.{part}
use Rattle.dshot_spec.specs.Timing.{Timing}
use Rattle.dshot_bank_spec.specs.State.{Stats, LaneReply, Buffers}
use Rattle.dshot_bank_spec.specs.Commands.{no_replies, from_lanes}
use Rattle.dshot_bank_spec.specs.Calls.{take_telemetry_request_sent, take_replies, is_bidirectional, is_faulted, stats, requested_values_call, command_pending_call, sending, motor_sent, replied, flag, counts, values, slots, State}
use Rattle.dshot_bank_spec.specs.Steps.{port_refusal, step}
use Rattle.dshot_bank_spec.proofs.PortLaws.{SlotsFit}
use Rattle.dshot_bank_spec.proofs.LookLaws.{view_first}

module _ (n : ℕ) (timing : Timing) (buffers : Buffers) where
  abbrev new : State
  new = record { bank = from_lanes n timing; buffers = buffers }

  abbrev none-counted : Stats
  none-counted = record {
    frames_started = 0;
    frames_completed = 0;
    lane_completions = replicate n 0;
    busy_skips = 0;
    lease_expiries = 0;
    frame_timeouts = 0;
    dma_faults = 0;
    spurious_interrupts = 0;
  }

  -- `from_lanes`: nothing is requested, sent, pending, received or counted
  pub record Untouched : Type 0 where
    pub bidirectional : (step n new is_bidirectional).answer ≡ flag false
    pub faulted : (step n new is_faulted).answer ≡ flag false
    pub requested : (step n new requested_values_call).answer ≡ values (replicate n 0)
    pub pending : (step n new command_pending_call).answer ≡ flag false
    pub sent : (step n new take_telemetry_request_sent).answer ≡ motor_sent none
    pub replies : (step n new take_replies).answer ≡ replied none
    pub counted : (step n new stats).answer ≡ counts none-counted
    -- no frame is in flight, no reply waits, and no lease runs
    pub idle : new.bank.core.frame.busy ≡ false
    pub waiting : new.bank.core.frame.replies_waiting ≡ false
    pub unleased : new.bank.core.demand.lease_duration_ms ≡ none
    pub unasked : new.bank.core.telemetry.request ≡ none
    pub timed : new.bank.core.timing ≡ timing
    -- no reply of any lane was read, and none is counted, valid or not
    pub unread : (lane : ℕ) (d : LaneReply) → lane < n
        → get_or new.bank.replies lane d ≡ record { reply = Reply.refused 7; valid = 0; invalid = 0; consecutive_invalid = 0 }
    -- and each lane is seen to send what the first buffer holds
    pub view : (lane : ℕ) → lane < n → SlotsFit n (length buffers.first) (length buffers.second)
        → (step n new (sending lane)).answer ≡ slots (part 16 lane buffers.first)

  pub new-untouched : Untouched
  unfolding step port_refusal from_lanes
  new-untouched = record {
    bidirectional = refl;
    faulted = refl;
    requested = refl;
    pending = refl;
    sent = refl;
    replies = refl;
    counted = refl;
    idle = refl;
    waiting = refl;
    unleased = refl;
    unasked = refl;
    timed = refl;
    unread = λ lane d l. get_or-replicate n lane no_replies d l;
    view = λ lane l fit. view_first n new lane l fit (get_or-replicate n lane false false l);
  }
