-- A property of a bank's demand and mode that a stop keeps: every call keeps it, if what the call itself sets has it. For every number of lanes and state.
-- Assumes nothing.
use mathlib.Core.Path.{◌≡◌, refl}
use Prim.Native.Nat.{ℕ}
use mathlib.Core.Bool.{Bool, true, not}
use mathlib.Core.List.{List}
use mathlib.Core.Option.{none}
use lib.Dec.{eqb, ltb}
use lib.ListN.{replicate}
use Rattle.dshot_reply_spec.specs.Answer as Reply
use Rattle.dshot_spec.specs.Command.{CommandRun}
use Rattle.dshot_spec.specs.Lease.{lease_expired}
use Rattle.dshot_bank_spec.specs.Lanes.{any, is_some, position}
use Rattle.dshot_bank_spec.specs.State.{Demand, Core, LaneReply, Buffers}
use Rattle.dshot_bank_spec.specs.Commands.{any_requested, is_running, enable_bidirectional, command_stop, command_throttles, command_special, request_telemetry, cancel_telemetry_request, clear_request_sent}
use Rattle.dshot_bank_spec.specs.Send.{Sent, latch_fault, exchange_refused, frame_started, exchange_buffers, send_requested}
use Rattle.dshot_bank_spec.specs.Interrupt.{Interrupted, all_complete, is_complete, lane_done, frame_done, window_opened, window_closed, opens_window, after_lane, on_dma_interrupt}
use Rattle.dshot_bank_spec.specs.Service.{Served, Skipped, demand_expired, expire_lease, service_busy, replies_read, service_core}
use Rattle.dshot_bank_spec.specs.Calls.{Call, enable_bidirectional_call, command_stop_call, command_throttles_call, command_special_call, request_telemetry_call, cancel_telemetry_request_call, take_telemetry_request_sent, service_call, on_dma_interrupt_call, take_replies, is_bidirectional, is_faulted, stats, requested_values_call, command_pending_call, reply_stats, sending, lend, State, Stepped, commanded, act}
use Rattle.dshot_bank_spec.specs.Steps.{step}
use Rattle.dshot_bank_spec.proofs.LaneLaws.{either}
use Rattle.dshot_bank_spec.proofs.Refusals.{either_step}
use Rattle.dshot_bank_spec.proofs.Service.{leased_core}
use Rattle.dshot_bank_spec.proofs.ThrottleLaws.{demanded}

-- a demand after a stop
abbrev pub stopped : ℕ → Demand → Demand
stopped n d = record { requested_values = replicate n 0; lease_started_ms = d.lease_started_ms; lease_duration_ms = none }

module _ (P : Demand → Bool → Type 0) where
  abbrev Holds : Core → Type 0
  Holds c = P c.demand c.frame.bidirectional

  abbrev HoldsAfter : Interrupted → Type 0
  HoldsAfter r = Holds r.core

  module _ (n : ℕ) (stop : (d : Demand) (mode : Bool) → P d mode → P (stopped n d) mode) where
    -- ---- a service

    module _ (now : ℕ) where
      busy-holds : (expired : Bool) (c : Core) → Holds c → Holds (service_busy n now expired c).core
      unfolding service_busy latch_fault command_stop
      busy-holds expired c h =
          let kept : Skipped → Type 0 = λ k. Holds k.core in
          either kept (lease_expired c.frame.started_ms 1 now) (stop _ _ h) (either kept expired h h)

      read-holds : (c : Core) → Holds c → Holds (replies_read c)
      unfolding replies_read
      read-holds c h = either Holds c.frame.replies_waiting h h

      leased-holds : (c : Core) → Holds c → Holds (leased_core n now c)
      unfolding expire_lease command_stop clear_request_sent
      leased-holds c h = either Holds (demand_expired now c.demand) (stop _ _ h) h

      send-holds : (taken : List Bool) (c : Core) → Holds c → Holds (send_requested n now taken c).core
      unfolding send_requested exchange_buffers exchange_refused latch_fault command_stop frame_started
      send-holds taken c h = either (λ (s : Sent). Holds s.core) (ltb (position not taken) n) (stop _ _ h) h

      service-holds : (taken present : List Bool) (masks samples : List ℕ) (replies : List LaneReply) (buffers : Buffers) (c : Core)
          → Holds c → Holds (service_core n now taken present masks samples replies buffers c).bank.core
      unfolding service_core clear_request_sent
      service-holds taken present masks samples replies buffers c h =
          let kept : Served → Type 0 = λ z. Holds z.bank.core in
          let c₁ = leased_core n now c in
          let h₁ = leased-holds c h in
          either kept c.frame.faulted h
          (either kept c₁.frame.busy (busy-holds (demand_expired now c.demand) c₁ h₁) (send-holds taken (replies_read c₁) (read-holds c₁ h₁)))

    -- ---- an interrupt

    module _ (motor : ℕ) (complete error turned back : Bool) where
      lane-holds : (c : Core) → Holds c → HoldsAfter (after_lane n motor complete error turned back c)
      unfolding after_lane latch_fault command_stop window_opened window_closed frame_done
      lane-holds c h =
          either HoldsAfter (not (eqb c.frame.completion_mask (all_complete n))) h
          (either HoldsAfter (opens_window c.frame) (either HoldsAfter turned h (stop _ _ h))
          (either HoldsAfter c.frame.receiving (either HoldsAfter back h (stop _ _ h)) h))

      interrupt-holds : (c : Core) → Holds c → HoldsAfter (on_dma_interrupt n motor complete error turned back c)
      unfolding on_dma_interrupt latch_fault command_stop lane_done
      interrupt-holds c h =
          either HoldsAfter c.frame.faulted h
          (either HoldsAfter (not c.frame.busy) (stop _ _ h)
          (either HoldsAfter (is_complete motor c.frame.completion_mask) (stop _ _ h)
          (either HoldsAfter error (stop _ _ h) (either HoldsAfter (not complete) (stop _ _ h) (lane-holds (lane_done motor c) h)))))

    -- ---- every call

    module _ (s : State) (h : Holds s.bank.core) where
      abbrev HoldsIn : Stepped → Type 0
      HoldsIn r = Holds r.state.bank.core

      abbrev HoldsIfGiven : Reply.Answer Core → Type 0
      HoldsIfGiven a = HoldsIn (commanded s a)

      throttles-hold : (commands : List ℕ) (now lease : ℕ) → P (demanded n commands now lease) s.bank.core.frame.bidirectional
          → HoldsIfGiven (command_throttles n commands now lease s.bank.core)
      unfolding command_throttles command_stop
      throttles-hold commands now lease t =
          either HoldsIfGiven s.bank.core.frame.faulted h
          (either HoldsIfGiven (any (ltb 2000) commands) h (either HoldsIfGiven (not (any_requested commands)) (stop _ _ h) t))

      special-holds : (motor : ℕ) (sequence : CommandRun) → HoldsIfGiven (command_special motor sequence s.bank.core)
      unfolding command_special
      special-holds motor sequence =
          either HoldsIfGiven s.bank.core.frame.faulted h
          (either HoldsIfGiven (is_running s.bank.core.demand) h (either HoldsIfGiven (is_some s.bank.core.command_sequence) h h))

      request-holds : (motor : ℕ) → HoldsIfGiven (request_telemetry motor s.bank.core)
      unfolding request_telemetry
      request-holds motor =
          either HoldsIfGiven s.bank.core.frame.faulted h (either HoldsIfGiven (is_some s.bank.core.telemetry.request) h h)

      enable-holds : (receives : Bool) → P s.bank.core.demand true → HoldsIfGiven (enable_bidirectional receives s.bank.core)
      unfolding enable_bidirectional
      enable-holds receives b = either HoldsIfGiven (not receives) h b

      -- what a call sets: the mode, or a demand
      module _ (c : Call) (enabled : (receives : Bool) → c ≡ enable_bidirectional_call receives → P s.bank.core.demand true)
          (throttles : (commands : List ℕ) (now lease : ℕ) → c ≡ command_throttles_call commands now lease
          → P (demanded n commands now lease) s.bank.core.frame.bidirectional) where
        act-holds : (k : Call) → c ≡ k → HoldsIn (act n s k)
        unfolding command_stop cancel_telemetry_request clear_request_sent
        act-holds (enable_bidirectional_call receives) e = enable-holds receives (enabled receives e)
        act-holds command_stop_call e = stop _ _ h
        act-holds (command_throttles_call commands now lease) e = throttles-hold commands now lease (throttles commands now lease e)
        act-holds (command_special_call motor sequence) e = special-holds motor sequence
        act-holds (request_telemetry_call motor) e = request-holds motor
        act-holds cancel_telemetry_request_call e = h
        act-holds take_telemetry_request_sent e = h
        act-holds (service_call now taken present masks samples) e = service-holds now taken present masks samples s.bank.replies s.buffers s.bank.core h
        act-holds (on_dma_interrupt_call motor complete error turned back) e = interrupt-holds motor complete error turned back s.bank.core h
        act-holds take_replies e = h
        act-holds is_bidirectional e = h
        act-holds is_faulted e = h
        act-holds stats e = h
        act-holds requested_values_call e = h
        act-holds command_pending_call e = h
        act-holds reply_stats e = h
        act-holds (sending motor) e = h
        act-holds (lend buffers) e = h

        -- the property is kept
        pub still-holds : HoldsIn (step n s c)
        still-holds = either_step n s c HoldsIn (act-holds c refl) h
