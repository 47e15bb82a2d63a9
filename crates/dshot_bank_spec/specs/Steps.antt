-- One call of the port: it is refused, or it does what the source does.
-- Added around the Rust's calls: document 01 refuses a wrong length and a lane that does not exist.
-- Assumes nothing.
use Rattle.std.specs.Prelude.{ℕ, ◌*◌, Bool, false, eqb, ltb, length, if◌then◌else◌}
use Rattle.dshot_reply_spec.specs.Refusals.{wrong_length, no_such_motor}
use Rattle.dshot_bank_spec.specs.State.{Buffers}
use Rattle.dshot_bank_spec.specs.Calls.{Call, enable_bidirectional_call, command_stop_call, command_throttles_call, command_special_call, request_telemetry_call, cancel_telemetry_request_call, take_telemetry_request_sent, service_call, on_dma_interrupt_call, take_replies, is_bidirectional, is_faulted, stats, requested_values_call, command_pending_call, reply_stats, sending, lend, refused, State, Stepped, told, act}

-- ---- What only the port refuses: first a lent buffer of the wrong length, then a lane that does not exist. The source's types allow neither.

-- whether the two sequence buffers have the right length: 16 slots a lane
abbrev pub slots_fit : ℕ → ℕ → ℕ → Bool
slots_fit n first second = if eqb first (16 * n) then eqb second (16 * n) else false

-- and the captures too: 160 samples a lane
abbrev pub service_fits : ℕ → ℕ → ℕ → ℕ → Bool
service_fits n first second captures = if slots_fit n first second then eqb captures (160 * n) else false

abbrev pub buffers_fit : ℕ → Buffers → Bool
buffers_fit n b = slots_fit n (length b.first) (length b.second)

abbrev pub length_refusal : Bool → ℕ → ℕ
length_refusal fit otherwise = if fit then otherwise else wrong_length

abbrev pub lane_refusal : ℕ → ℕ → ℕ
lane_refusal n motor = if ltb motor n then 0 else no_such_motor

-- the number of the port's refusal; 0 if it does not refuse
unfoldable pub port_refusal : ℕ → State → Call → ℕ
port_refusal n s (service_call now taken present masks samples) = length_refusal (service_fits n (length s.buffers.first) (length s.buffers.second) (length samples)) 0
port_refusal n s (sending motor) = length_refusal (buffers_fit n s.buffers) (lane_refusal n motor)
port_refusal n s (command_special_call motor sequence) = lane_refusal n motor
port_refusal n s (request_telemetry_call motor) = lane_refusal n motor
port_refusal n s (on_dma_interrupt_call motor complete error turned back) = lane_refusal n motor
port_refusal n s (enable_bidirectional_call receives) = 0
port_refusal n s command_stop_call = 0
port_refusal n s (command_throttles_call commands now lease) = 0
port_refusal n s cancel_telemetry_request_call = 0
port_refusal n s take_telemetry_request_sent = 0
port_refusal n s take_replies = 0
port_refusal n s is_bidirectional = 0
port_refusal n s is_faulted = 0
port_refusal n s stats = 0
port_refusal n s requested_values_call = 0
port_refusal n s command_pending_call = 0
port_refusal n s reply_stats = 0
port_refusal n s (lend buffers) = 0

-- ---- a call of the port

abbrev pub refuse_or : State → ℕ → Stepped → Stepped
refuse_or s number acted = if eqb number 0 then acted else told s (refused number)

-- a call of the port: the refusal leaves the state as it was
unfoldable pub step : ℕ → State → Call → Stepped
step n s call = refuse_or s (port_refusal n s call) (act n s call)
