-- How an exported call of a bank puts its answer into the slots that it is lent.
-- Added: document 01 asks for calls from C.
-- Assumes nothing.
use Rattle.std.specs.Prelude.{Bool, false, not, ℕ, ◌+◌, ◌-◌, ◌*◌, ◌/◌, ◌%◌, List, [], ◌∷◌, ◌++◌, map, eqb, length, replicate, get_or, if◌then◌else◌}
use Rattle.std.proofs.Math.Option.{Option, none, some}
use Rattle.dshot_reply_spec.specs.Answer.{given, refused}
use Rattle.dshot_reply_spec.specs.Refusals.{no_reply}
use Rattle.dshot_reply_spec.specs.Answer as Reply
use Rattle.dshot_reply_spec.specs.Value.{Reading}
use Rattle.dshot_reply_spec.specs.Kind.{kind_number, reading_number}
use Rattle.dshot_bank_spec.specs.State.{Stats}
use Rattle.dshot_bank_spec.specs.Order.{Order, exchange_buffer, start_dma, start_frame, stop_frame, force_outputs_low, pause_and_clear, begin_receive, end_receive}
use Rattle.dshot_bank_spec.specs.OrderNumber.{code, duties_in}
use Rattle.dshot_bank_spec.specs.Service.{ServiceEvent}
use Rattle.dshot_bank_spec.specs.Service as Service
use Rattle.dshot_bank_spec.specs.Interrupt.{InterruptEvent}
use Rattle.dshot_bank_spec.specs.Interrupt as Interrupt
use Rattle.dshot_bank_spec.specs.Calls.{Answer, done, motor_sent, serviced, interrupted, replied, counts, values, reply_counts, slots, ReplyStats}
use Rattle.dshot_bank_spec.specs.Calls as Call
use Rattle.bank_slots_spec.specs.Load.{four_lists}
use Rattle.bank_slots_spec.specs.Store.{bit}
use Rattle.bank_slots_spec.specs.Called.{number}

-- ---- events and orders

-- the number of an event, in the order of the Rust's `DshotServiceEvent` and `DshotInterruptEvent`
abbrev pub service_event : ServiceEvent → ℕ
service_event Service.frame_started_event = 0
service_event Service.busy = 1
service_event Service.lease_expired_event = 2
service_event Service.faulted = 3

abbrev pub interrupt_event : InterruptEvent → ℕ
interrupt_event Interrupt.completed = 0
interrupt_event Interrupt.faulted = 1
interrupt_event Interrupt.spurious = 2

-- The number of a service's order. An order to exchange also names the buffer that the lane is given: it is 4 more for the second. If a lane sends
-- from the first buffer, the second is its spare.
abbrev pub code_given : List Bool → Order → ℕ
code_given in_second (exchange_buffer m) = code (exchange_buffer m) + 4 * bit (not (get_or in_second m false))
code_given in_second (start_dma m) = code (start_dma m)
code_given in_second (start_frame d) = code (start_frame d)
code_given in_second stop_frame = code stop_frame
code_given in_second force_outputs_low = code force_outputs_low
code_given in_second (pause_and_clear m) = code (pause_and_clear m)
code_given in_second begin_receive = code begin_receive
code_given in_second end_receive = code end_receive

-- the numbers of some orders, with zeros after them up to n
abbrev pub codes : ℕ → (Order → ℕ) → List Order → List ℕ
codes n number l = map number l ++ replicate (n - length l) 0

-- the event, the number of orders, and the orders; then the first duties
abbrev pub service_slots : ServiceEvent → List Order → List Bool → List ℕ
service_slots e l in_second = service_event e ∷ length l ∷ (codes 9 (code_given in_second) l ++ duties_in l)

-- the same of an interrupt, which exchanges no buffer and has no duties
abbrev pub interrupt_slots : InterruptEvent → List Order → List ℕ
interrupt_slots e l = interrupt_event e ∷ length l ∷ codes 7 code l

-- ---- the other answers

abbrev pub word_slots : ℕ → List ℕ
word_slots n = n % 65536 ∷ n / 65536 ∷ []

-- 1 and the lane; 0 and 0 if there is none
abbrev pub motor_slots : Option ℕ → List ℕ
motor_slots none = 0 ∷ 0 ∷ []
motor_slots (some lane) = 1 ∷ lane ∷ []

-- the counts in the order of the Rust's `DshotStats`
abbrev pub count_slots : Stats → List ℕ
count_slots s =
    word_slots s.frames_started
    ++ (word_slots s.frames_completed
    ++ (four_lists (λ (i : ℕ). word_slots (get_or s.lane_completions i 0))
    ++ (word_slots s.busy_skips
    ++ (word_slots s.lease_expiries
    ++ (word_slots s.frame_timeouts
    ++ (word_slots s.dma_faults
    ++ word_slots s.spurious_interrupts))))))

-- each count of the four lanes, in the order of the Rust's `DshotReplyStats`
abbrev pub reply_count_slots : ReplyStats → List ℕ
reply_count_slots s =
    four_lists (λ (i : ℕ). word_slots (get_or s.valid i 0))
    ++ (four_lists (λ (i : ℕ). word_slots (get_or s.invalid i 0))
    ++ four_lists (λ (i : ℕ). word_slots (get_or s.consecutive_invalid i 0)))

-- a lane's reply: 0, the kind and the number; if it is refused, the refusal's number and zeros
abbrev pub reply_slots : Reply.Answer Reading → List ℕ
reply_slots (given r) = 0 ∷ kind_number r ∷ word_slots (reading_number r)
reply_slots (refused n) = n ∷ 0 ∷ 0 ∷ 0 ∷ []

-- 1 and the replies of the four lanes. If none are held, 0 and 7 (no reply) for each lane, so that no lane reads as a rotor at rest.
abbrev pub replies_slots : Option (List (Reply.Answer Reading)) → List ℕ
replies_slots none = 0 ∷ four_lists (λ (i : ℕ). reply_slots (refused no_reply))
replies_slots (some l) = 1 ∷ four_lists (λ (i : ℕ). reply_slots (get_or l i (refused no_reply)))

-- an answer in slots
abbrev pub slots_of : Answer → List ℕ
slots_of done = []
slots_of (Call.refused n) = []
slots_of (motor_sent m) = motor_slots m
slots_of (serviced e l in_second) = service_slots e l in_second
slots_of (interrupted e l) = interrupt_slots e l
slots_of (replied r) = replies_slots r
slots_of (Call.flag b) = bit b ∷ []
slots_of (counts s) = count_slots s
slots_of (values v) = v
slots_of (reply_counts r) = reply_count_slots r
slots_of (slots l) = l

-- what lent slots hold after an answer: the answer in slots; if it is a refusal, what they held before
unfoldable pub out_after : Answer → List ℕ → List ℕ
out_after a before = if eqb (number a) 0 then slots_of a else before
