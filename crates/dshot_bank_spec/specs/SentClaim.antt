-- What is claimed of a frame set that starts: what is written reads back. The view of each lane shows a sequence that reads as what was to be sent.
-- Assumes nothing.
use Rattle.std.specs.Prelude.{ℕ, ◌%◌, ◌<◌, ◌≡◌, Bool, List, [], ◌∷◌, ◌++◌, get_or}
use Rattle.dshot_reply_spec.specs.Answer.{given}
use Rattle.dshot_spec.specs.Packet.{asks}
use Rattle.dshot_spec.specs.Sequence.{read_sequence}
use Rattle.dshot_bank_spec.specs.State.{Core}
use Rattle.dshot_bank_spec.specs.Order.{Order, start_frame}
use Rattle.dshot_bank_spec.specs.Commands.{clear_request_sent}
use Rattle.dshot_bank_spec.specs.FrameSet.{next_set, kind_sent}
use Rattle.dshot_bank_spec.specs.Service.{ServiceEvent, demand_expired, expire_lease, replies_read}
use Rattle.dshot_bank_spec.specs.Calls.{service_call, sending, serviced, slots, State}
use Rattle.dshot_bank_spec.specs.Steps.{step}

-- the core at the moment when a service begins to send
abbrev pub sending_core : ℕ → ℕ → Core → Core
sending_core n now c = replies_read (expire_lease n (demand_expired now (clear_request_sent c).demand) (clear_request_sent c))

module _ (n : ℕ) (s after : State) (now : ℕ) (first_duties : List ℕ) (lane : ℕ) where
  -- The view shows a sequence. With the lane's duty of the order to start, it reads as the lane's value, telemetry bit and kind of checksum.
  pub record ReadsBack : Type 0 where
    pub part : List ℕ
    pub seen : (step n after (sending lane)).answer ≡ slots part
    pub read : read_sequence after.bank.core.timing (record { first = get_or first_duties lane 0; slots = part })
        ≡ given (record {
          value = get_or (next_set n (sending_core n now s.bank.core)).values lane 0 % 2048;
          telemetry = asks (next_set n (sending_core n now s.bank.core)).telemetry_lane lane;
          kind = kind_sent (sending_core n now s.bank.core);
        })

-- the claim, for each service that orders a frame to start, if the timing's high times differ
abbrev pub SentReadsBack : Type 0
SentReadsBack = (n : ℕ) (s : State) (now : ℕ) (taken present : List Bool) (masks samples : List ℕ) (e : ServiceEvent) (orders : List Order) (in_second : List Bool) (first_duties : List ℕ)
    → (step n s (service_call now taken present masks samples)).answer ≡ serviced e (orders ++ (start_frame first_duties ∷ [])) in_second
    → (s.bank.core.timing.zero_high ≡ s.bank.core.timing.one_high → ⊥)
    → (lane : ℕ) → lane < n
    → ReadsBack n s (step n s (service_call now taken present masks samples)).state now first_duties lane
