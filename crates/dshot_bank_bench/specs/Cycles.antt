-- Cycles of a bank, as the benchmark needs them. Each cycle is some calls of the bank, whose orders are added up. All cycles together leave a bank
-- with its buffers, and a sum.
-- Assumes nothing.
use Rattle.std.specs.Prelude.{ℕ, zero, suc, fold, ◌+◌, ◌*◌, ◌/◌, ◌%◌, ◌^◌, Bool, true, false, not, List, [], ◌∷◌, length, replicate, ◌==◌, nat_eq, slice_index, slice_index_or, if◌then◌else◌}
use Rattle.dshot_reply_spec.specs.Refusals.{wrong_length}
use Rattle.dshot_reply_spec.specs.Answer as Reply
use Rattle.dshot_reply_spec.specs.Value.{Reading, erpm, temp, volt, amp, debug, state, edt}
use Rattle.dshot_spec.specs.Tabulate.{tabulate, part}
use Rattle.dshot_bank_spec.specs.State.{Stats, LaneReply, Bank, Buffers}
use Rattle.dshot_bank_spec.specs.Commands.{from_lanes}
use Rattle.dshot_bank_spec.specs.Calls.{Call, State, enable_bidirectional_call, command_throttles_call, service_call, on_dma_interrupt_call}
use Rattle.dshot_bank_spec.specs.Steps.{step}
use Rattle.dshot_bank.specs.declared.orders.Orders.{Orders}
use Rattle.dshot_bank.specs.Orders.{held, orders_in}
use Rattle.dshot_bank_spec.specs.OrderNumber.{duties_in}

-- ---- the sum of the orders, modulo 2 ^ 32

abbrev pub add_all : ℕ → List ℕ → ℕ
add_all s ns = fold (λ sum n. (sum + n) % 2 ^ 32) s ns

-- the numbers of the first n orders in one number, seven bits each, the first lowest
abbrev pub numbers_in : ℕ → ℕ → List ℕ
numbers_in zero codes = []
numbers_in (suc n) codes = codes % 128 ∷ numbers_in n (codes / 128)

-- the sum with the numbers of some orders and their first duties added
abbrev pub told : ℕ → Orders → List ℕ → ℕ
told s o duties = add_all (add_all s (numbers_in o.count o.codes)) duties

-- ---- calls and cycles

-- a bank with its buffers, and the sum of its orders so far
pub record Run : Type 0 where
  pub state : State
  pub sum : ℕ

-- the run after a call, with its orders added
abbrev pub after : Run → Call → Run
after r call =
    let x = step 4 r.state call in
    record { state = x.state; sum = told r.sum (held (orders_in x.answer)) (duties_in (orders_in x.answer)) }

-- the run after a call that orders nothing
abbrev pub past : Run → Call → Run
past r call = record { state = (step 4 r.state call).state; sum = r.sum }

-- The run after i interrupts, of one lane after the other. Each transfer is complete. If the lanes are asked to turn, they turn.
unfoldable pub interrupts : ℕ → Run → Run
interrupts zero r = r
interrupts (suc i) r = after (interrupts i r) (on_dma_interrupt_call (i % 4) true false true true)

-- the throttles of cycle n
abbrev pub throttles_at : List ℕ → ℕ → List ℕ
throttles_at xs n = slice_index xs (4 * n) ∷ slice_index xs (4 * n + 1) ∷ slice_index xs (4 * n + 2) ∷ slice_index xs (4 * n + 3) ∷ []

-- One cycle at the clock n. The throttles are renewed, and all buffers are taken. Every capture is present, or none is. Then the interrupts come.
abbrev pub cycle : List ℕ → Bool → ℕ → List ℕ → ℕ → ℕ → Run → Run
cycle throttles present mask samples count n r =
    interrupts count
    (after (past r (command_throttles_call throttles n 10)) (service_call n (replicate 4 true) (replicate 4 present) (replicate 4 mask) samples))

-- the run after n cycles, each with its own four throttles and four windows
unfoldable pub cycles : Bool → ℕ → ℕ → List ℕ → List ℕ → Run → ℕ → Run
cycles present mask count throttles captures r zero = r
cycles present mask count throttles captures r (suc n) =
    cycle (throttles_at throttles n) present mask (part 640 n captures) count n (cycles present mask count throttles captures r n)

-- a new bank with its timing and its buffers, bidirectional or not; nothing is ordered yet
abbrev pub start : ℕ → ℕ → ℕ → ℕ → Bool → Buffers → Run
start arr low high sample bidirectional b =
    let bank = from_lanes 4 (record { arr = arr; zero_high = low; one_high = high; reply_sample_arr = sample }) in
    past (record { state = record { bank = bank; buffers = b }; sum = 0 }) (enable_bidirectional_call bidirectional)

-- whether every slice has its length, for captures of n cycles
unfoldable pub fit : ℕ → ℕ → ℕ → ℕ → ℕ → Bool
fit n throttles first second numbers =
    if throttles == 4 * n then (if nat_eq first 64 then (if nat_eq second 64 then (numbers == 24) else false) else false) else false

-- The run of a new bank after as many cycles as there are captures for. If a slice has another length, the refusal is 13 (wrong length). In a flag, 0
-- means no.
unfoldable pub asked : ℕ → ℕ → ℕ → ℕ → ℕ → ℕ → ℕ → ℕ → List ℕ → List ℕ → List ℕ → List ℕ → List ℕ → Reply.Answer Run
asked arr low high sample bidirectional present mask count throttles captures first second numbers =
    let n = length captures / 640 in
    if fit n (length throttles) (length first) (length second) (length numbers)
    then Reply.given (cycles (not (present == 0)) mask count throttles captures (start arr low high sample (not (bidirectional == 0)) (record { first = first; second = second })) n)
    else Reply.refused wrong_length

-- ---- the numbers that are given of what is left

abbrev pub first_of : Run → List ℕ
first_of r = r.state.buffers.first

abbrev pub second_of : Run → List ℕ
second_of r = r.state.buffers.second

-- the speed that a reply reads as; 0 if it is no speed
abbrev pub speed : Reply.Answer Reading → ℕ
speed (Reply.given (erpm n)) = n
speed (Reply.given (temp n)) = 0
speed (Reply.given (volt n)) = 0
speed (Reply.given (amp n)) = 0
speed (Reply.given (debug c n)) = 0
speed (Reply.given (state n)) = 0
speed (Reply.given edt) = 0
speed (Reply.refused n) = 0

-- three counts of a bank, and the sum
abbrev pub bank_counts : Stats → ℕ → List ℕ
bank_counts s sum = s.frames_started ∷ s.frames_completed ∷ s.dma_faults ∷ sum ∷ []

-- One count, by its kind. The first kinds are a lane's completions, its good replies, its bad replies, its bad replies in a row, and its speed. The
-- last is no count of a lane.
abbrev pub count_of : ℕ → ℕ → LaneReply → ℕ → ℕ
count_of kind completions reply other =
    if kind == 0 then completions else
    if kind == 1 then reply.valid else
    if kind == 2 then reply.invalid else
    if kind == 3 then reply.consecutive_invalid else
    if kind == 4 then speed reply.reply else
    other

-- what stands in the place of a lane that does not exist
abbrev pub no_lane : LaneReply
no_lane = record { reply = Reply.given (erpm 0); valid = 0; invalid = 0; consecutive_invalid = 0 }

unfoldable pub count_at : Bank → ℕ → ℕ → ℕ
count_at b sum i =
    count_of (i / 4) (slice_index b.core.stats.lane_completions (i % 4)) (slice_index_or b.replies (i % 4) no_lane) (slice_index (bank_counts b.core.stats sum) (i % 4))

abbrev pub counts_of : Run → List ℕ
counts_of r = tabulate 24 (count_at r.state.bank r.sum)
