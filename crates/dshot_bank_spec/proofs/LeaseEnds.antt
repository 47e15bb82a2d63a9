-- No throttle outlives its lease. If a service finds the lease expired, it sends a set without throttle.
-- Assumes nothing.
use Rattle.std.specs.Prelude.{if◌then◌else◌}
use mathlib.Core.Path.{◌≡◌, ◌∙◌, refl, ap}
use mathlib.Core.Bool.{Bool, true, false, not, true≢false}
use mathlib.Core.Option.{Option, none, some}
use mathlib.Core.List.{List, []}
use Prim.Native.Nat.{ℕ}
use lib.Dec.{ltb}
use lib.ListN.{replicate}
use Rattle.dshot_reply_spec.specs.Answer.{pick}
use Rattle.dshot_spec.specs.Lease.{lease_expired}
use Rattle.dshot_bank_spec.specs.State.{Demand, MotorRun, Frame, Core, LaneReply, Buffers}
use Rattle.dshot_bank_spec.specs.Lanes.{position}
use Rattle.dshot_bank_spec.specs.With.{with_frame, with_replies_held, with_replies_waiting}
use Rattle.dshot_bank_spec.specs.Commands.{MotorCommand, any_requested, command_stop, clear_request_sent, next_of_run, next_command_frame}
use Rattle.dshot_bank_spec.specs.FrameSet.{frame_set}
use Rattle.dshot_bank_spec.specs.Send.{Sent, latch_fault, exchange_refused, frame_started, exchange_buffers, send_requested}
use Rattle.dshot_bank_spec.specs.Service.{faulted, Skipped, Served, demand_expired, expire_lease, service_busy, replies_read, service_core}
use Rattle.dshot_bank_spec.specs.SentClaim.{sending_core}
use Rattle.dshot_bank_spec.specs.LeaseClaim.{no_throttle, LeaseEnds}
use Rattle.dshot_bank_spec.proofs.LaneLaws.{either}

-- reading replies leaves what is not of the frame
pub read_keeps : {A : Type 0} (g : Core → A) → ((f : Frame) (c : Core) → g (with_frame f c) ≡ g c) → (c : Core) → g (replies_read c) ≡ g c
unfolding replies_read
read_keeps g k c = either (λ (x : Core). g x ≡ g c) c.frame.replies_waiting (k (with_replies_held true (with_replies_waiting false c.frame)) c) refl

-- the core without its lease, before a set in flight is looked at
ended : ℕ → ℕ → Core → Core
ended n now c = expire_lease n (demand_expired now (clear_request_sent c).demand) (clear_request_sent c)

module _ (n now : ℕ) (c : Core) (e : demand_expired now c.demand ≡ true) where
  ended-demand : (ended n now c).demand ≡ (command_stop n c).demand
  unfolding ended clear_request_sent expire_lease command_stop
  ended-demand = ap (λ (b : Bool). (expire_lease n b (clear_request_sent c)).demand) e

  ended-run : (ended n now c).command_sequence ≡ c.command_sequence
  unfolding ended clear_request_sent expire_lease command_stop
  ended-run = ap (λ (b : Bool). (expire_lease n b (clear_request_sent c)).command_sequence) e

  -- the demand and the run with which the service comes to send
  demand-ended : (sending_core n now c).demand ≡ (command_stop n c).demand
  unfolding ended
  demand-ended = read_keeps (λ (x : Core). x.demand) (λ f x. refl) (ended n now c) ∙ ended-demand

  run-kept : (sending_core n now c).command_sequence ≡ c.command_sequence
  unfolding ended
  run-kept = read_keeps (λ (x : Core). x.command_sequence) (λ f x. refl) (ended n now c) ∙ ended-run

  stopped : (sending_core n now c).demand.requested_values ≡ replicate n 0
  unfolding command_stop
  stopped = ap (λ (d : Demand). d.requested_values) demand-ended

  -- a set by the command that it has, if any
  set-by : (o : Option MotorCommand) → (frame_set n (sending_core n now c) o).values ≡ no_throttle n o
  set-by none = stopped
  set-by (some m) = refl

  no-command : c.command_sequence ≡ none → (next_command_frame (sending_core n now c)).command ≡ none
  unfolding next_command_frame
  no-command h = side (any_requested (sending_core n now c).demand.requested_values) (sending_core n now c).command_sequence (run-kept ∙ h)
    where
      side : (b : Bool) (r : Option MotorRun) → r ≡ none → (if b then record { command = none; left = none } else next_of_run r).command ≡ none
      side true r k = refl
      side false r k = ap (λ (x : Option MotorRun). (next_of_run x).command) k

-- what holds of the second of two, if a test picks that
otherwise : {A : Type 0} (P : A → Type 0) (b : Bool) (x : A) {y : A} → b ≡ false → P y → P (pick b x y)
otherwise P true x e k = absurd (true≢false e)
otherwise P false x e k = k

module _ (n now : ℕ) (d : Demand) (h : (c : Core) → c.demand.lease_started_ms ≡ d.lease_started_ms → (command_stop n c).demand ≡ d) where
  -- a core with that demand, busy: it is skipped or latched
  busy-keeps : (expired : Bool) (c : Core) → c.demand ≡ d → (service_busy n now expired c).core.demand ≡ d
  unfolding service_busy latch_fault
  busy-keeps expired c e =
      either (λ (s : Skipped). s.core.demand ≡ d) (lease_expired c.frame.started_ms 1 now)
      (h _ (ap (λ (x : Demand). x.lease_started_ms) e))
      (either (λ (s : Skipped). s.core.demand ≡ d) expired e e)

  -- and idle: a set starts, or the exchange is refused
  send-keeps : (taken : List Bool) (c : Core) → c.demand ≡ d → (send_requested n now taken c).core.demand ≡ d
  unfolding send_requested exchange_buffers exchange_refused latch_fault frame_started
  send-keeps taken c e =
      either (λ (s : Sent). s.core.demand ≡ d) (ltb (position not taken) n) (h _ (ap (λ (x : Demand). x.lease_started_ms) e)) e

module _ (n now : ℕ) (c : Core) (e : demand_expired now c.demand ≡ true) (taken present : List Bool) (masks samples : List ℕ) (replies : List LaneReply) (buffers : Buffers) (f : c.frame.faulted ≡ false) where
  -- a stop with the same start of the lease
  same_stop : (x : Core) → x.demand.lease_started_ms ≡ (command_stop n c).demand.lease_started_ms → (command_stop n x).demand ≡ (command_stop n c).demand
  unfolding command_stop
  same_stop x k = λ j. record { requested_values = replicate n 0; lease_started_ms = k j; lease_duration_ms = none }

  left : (service_core n now taken present masks samples replies buffers c).bank.core.demand ≡ (command_stop n c).demand
  unfolding service_core clear_request_sent ended
  left =
      otherwise ends c.frame.faulted (record { event = faulted; orders = []; bank = record { core = clear_request_sent c; replies = replies }; buffers = buffers }) f
      (either ends (ended n now c).frame.busy
      (busy-keeps n now (command_stop n c).demand same_stop (demand_expired now c.demand) (ended n now c) (ended-demand n now c e))
      (send-keeps n now (command_stop n c).demand same_stop taken (replies_read (ended n now c)) (demand-ended n now c e)))
    where
      ends : Served → Type 0
      ends r = r.bank.core.demand ≡ (command_stop n c).demand

pub lease-ends : LeaseEnds
lease-ends n now c e = record {
  left = left n now c e;
  stopped = demand-ended n now c e;
  sent = set-by n now c e (next_command_frame (sending_core n now c)).command;
  zeros = λ h. set-by n now c e (next_command_frame (sending_core n now c)).command ∙ ap (no_throttle n) (no-command n now c e h);
}
