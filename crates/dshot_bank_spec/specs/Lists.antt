-- Lists of calls: what each call answers and leaves, and lists without their looks or their refused calls.
-- The terms "alike" and "refused call" are document 01's.
-- Assumes nothing.
use Rattle.std.specs.Prelude.{ℕ, Bool, true, false, List, [], ◌∷◌, if◌then◌else◌}
use Rattle.dshot_spec.specs.Timing.{Timing}
use Rattle.dshot_bank_spec.specs.State.{Buffers}
use Rattle.dshot_bank_spec.specs.Commands.{from_lanes}
use Rattle.dshot_bank_spec.specs.Calls.{Call, enable_bidirectional_call, command_stop_call, command_throttles_call, command_special_call, request_telemetry_call, cancel_telemetry_request_call, take_telemetry_request_sent, service_call, on_dma_interrupt_call, take_replies, is_bidirectional, is_faulted, stats, requested_values_call, command_pending_call, reply_stats, sending, lend, Answer, done, refused, motor_sent, serviced, interrupted, replied, flag, counts, values, reply_counts, slots, State, Stepped, act}
use Rattle.dshot_bank_spec.specs.Steps.{step}

-- ---- traces

-- the trace of a list: each call's answer, with the state that it left
abbrev pub trace : ℕ → State → List Call → List Stepped
trace n s [] = []
trace n s (c ∷ cs) = step n s c ∷ trace n (step n s c).state cs

-- the state after a list
abbrev pub run : ℕ → State → List Call → State
run n s [] = s
run n s (c ∷ cs) = run n (step n s c).state cs

-- the state after the source's calls, if the port refuses none
abbrev pub source_run : ℕ → State → List Call → State
source_run n s [] = s
source_run n s (c ∷ cs) = source_run n (act n s c).state cs

-- where a list of demand 3 starts: a new bank, set to bidirectional, with two buffers
abbrev pub fresh : ℕ → Timing → Buffers → State
fresh n timing buffers = (act n (record { bank = from_lanes n timing; buffers = buffers }) (enable_bidirectional_call true)).state

-- ---- calls that only look

abbrev pub is_look : Call → Bool
is_look (enable_bidirectional_call receives) = false
is_look command_stop_call = false
is_look (command_throttles_call commands now lease) = false
is_look (command_special_call motor sequence) = false
is_look (request_telemetry_call motor) = false
is_look cancel_telemetry_request_call = false
is_look take_telemetry_request_sent = false
is_look (service_call now taken present masks samples) = false
is_look (on_dma_interrupt_call motor complete error turned back) = false
is_look take_replies = false
is_look is_bidirectional = true
is_look is_faulted = true
is_look stats = true
is_look requested_values_call = true
is_look command_pending_call = true
is_look reply_stats = true
is_look (sending motor) = true
is_look (lend buffers) = false

-- a list without its calls that only look
abbrev pub acting : List Call → List Call
acting [] = []
acting (c ∷ cs) = if is_look c then acting cs else c ∷ acting cs

-- what is left of a list's trace without those calls
abbrev pub acting_of : List Call → List Stepped → List Stepped
acting_of [] rs = []
acting_of (c ∷ cs) [] = []
acting_of (c ∷ cs) (r ∷ rs) = if is_look c then acting_of cs rs else r ∷ acting_of cs rs

-- ---- refused calls

abbrev pub is_refused : Answer → Bool
is_refused done = false
is_refused (refused number) = true
is_refused (motor_sent m) = false
is_refused (serviced e o s) = false
is_refused (interrupted e o) = false
is_refused (replied r) = false
is_refused (flag b) = false
is_refused (counts s) = false
is_refused (values v) = false
is_refused (reply_counts r) = false
is_refused (slots l) = false

-- a list without its refused calls
abbrev pub accepted : ℕ → State → List Call → List Call
accepted n s [] = []
accepted n s (c ∷ cs) = if is_refused (step n s c).answer then accepted n s cs else c ∷ accepted n (step n s c).state cs

-- a trace without its refusals
abbrev pub accepted_of : List Stepped → List Stepped
accepted_of [] = []
accepted_of (r ∷ rs) = if is_refused r.answer then accepted_of rs else r ∷ accepted_of rs
