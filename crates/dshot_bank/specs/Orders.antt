-- What the code's orders mean in the terms of the definitions. They are one number, with seven bits for each order, and the first duties beside it.
-- Stands for the calls of the Rust's trait `DshotLanes`.
-- Assumes nothing.
use Rattle.std.specs.Prelude.{◌≡◌, ℕ, zero, suc, ◌+◌, ◌*◌, ◌/◌, ◌%◌, List, [], ◌∷◌, ◌++◌, length, Option, Some, None, option_map, ◌==◌, if◌then◌else◌}
use Rattle.std.specs.Option.{is_some, option_or}
use Rattle.dshot_bank_spec.specs.Order.{exchange_buffer, start_dma, start_frame, stop_frame, force_outputs_low, pause_and_clear, begin_receive, end_receive}
use Rattle.dshot_bank_spec.specs.Order as Spec
use Rattle.dshot_bank_spec.specs.OrderNumber.{code, duties_in}
use Rattle.dshot_bank_spec.specs.Calls.{Answer, done, refused, motor_sent, serviced, interrupted, replied, flag, counts, values, reply_counts, slots}
use Rattle.dshot_bank.specs.declared.DshotMotor.{DshotMotor}
use Rattle.dshot_bank.specs.declared.orders.OrderKind.{OrderKind}
use Rattle.dshot_bank.specs.declared.orders.OrderKind.TheVariants.{ExchangeBuffer, StartDma, StartFrame, StopFrame, ForceOutputsLow, PauseAndClear, BeginReceive, EndReceive}
use Rattle.dshot_bank.specs.declared.orders.Order.{Order}
use Rattle.dshot_bank.specs.declared.orders.Orders.{Orders}
use Rattle.dshot_bank.specs.States.{motor_of}

abbrev pub kind_number : OrderKind → ℕ
kind_number ExchangeBuffer = 1
kind_number StartDma = 2
kind_number StartFrame = 3
kind_number StopFrame = 4
kind_number ForceOutputsLow = 5
kind_number PauseAndClear = 6
kind_number BeginReceive = 7
kind_number EndReceive = 8

-- the numbers of some orders in one number, the first in the lowest seven bits
abbrev pub codes_of : List Spec.Order → ℕ
codes_of [] = 0
codes_of (x ∷ l) = code x + 128 * codes_of l

-- a number moved up by n orders
abbrev pub above : ℕ → ℕ → ℕ
above zero c = c
above (suc n) c = 128 * above n c

-- a list of orders as the code holds it
unfoldable pub held : List Spec.Order → Orders
held l = record { count = length l; codes = codes_of l }

-- the orders of an interrupt begin with the pause of its lane
abbrev pub Begins : Orders → DshotMotor → Type 0
Begins o motor = o ≡ held (pause_and_clear (motor_of motor) ∷ [])

-- ---- from numbers back to orders

-- the kind with a number
abbrev pub kind_at : ℕ → Option OrderKind
kind_at n =
    if n == 1 then Some ExchangeBuffer else
    if n == 2 then Some StartDma else
    if n == 3 then Some StartFrame else
    if n == 4 then Some StopFrame else
    if n == 5 then Some ForceOutputsLow else
    if n == 6 then Some PauseAndClear else
    if n == 7 then Some BeginReceive else
    if n == 8 then Some EndReceive else
    None

-- the order with a number
abbrev pub entry_of : ℕ → Option Order
entry_of n = option_map (λ (k : OrderKind). record { kind = k; motor = n % 8 }) (kind_at (n / 8))

-- the first order among n numbers; those of no kind before it are passed over
unfoldable pub first_from : ℕ → ℕ → Option Order
first_from zero codes = None
first_from (suc n) codes = option_or (entry_of (codes % 128)) (first_from n (codes / 128))

-- the numbers after it; none if there is no order
unfoldable pub rest_from : ℕ → ℕ → Orders
rest_from zero codes = record { count = 0; codes = codes }
rest_from (suc n) codes = if is_some (entry_of (codes % 128)) then record { count = n; codes = codes / 128 } else rest_from n (codes / 128)

-- the first order; `rest_orders` are those after it
abbrev pub first_order : Orders → Option Order
first_order o = first_from o.count o.codes

abbrev pub rest_orders : Orders → Orders
rest_orders o = rest_from o.count o.codes

-- an order by its kind and lane, with the first duties
abbrev pub order_of : List ℕ → OrderKind → ℕ → Spec.Order
order_of d ExchangeBuffer m = exchange_buffer m
order_of d StartDma m = start_dma m
order_of d StartFrame m = start_frame d
order_of d StopFrame m = stop_frame
order_of d ForceOutputsLow m = force_outputs_low
order_of d PauseAndClear m = pause_and_clear m
order_of d BeginReceive m = begin_receive
order_of d EndReceive m = end_receive

-- an order, if there is one
abbrev pub entry_orders : List ℕ → Option Order → List Spec.Order
entry_orders d None = []
entry_orders d (Some o) = order_of d o.kind o.motor ∷ []

-- the first n orders of a number
abbrev pub orders_from : List ℕ → ℕ → ℕ → List Spec.Order
orders_from d zero codes = []
orders_from d (suc n) codes = entry_orders d (entry_of (codes % 128)) ++ orders_from d n (codes / 128)

-- the list of orders that a number and the first duties beside it stand for
unfoldable pub orders_of : Orders → List ℕ → List Spec.Order
orders_of o d = orders_from d o.count o.codes

-- the orders of an answer; a refusal has none
abbrev pub orders_in : Answer → List Spec.Order
orders_in done = []
orders_in (refused number) = []
orders_in (motor_sent m) = []
orders_in (serviced e o s) = o
orders_in (interrupted e o) = o
orders_in (replied r) = []
orders_in (flag b) = []
orders_in (counts c) = []
orders_in (values v) = []
orders_in (reply_counts r) = []
orders_in (slots l) = []

-- The number and the duties hold the orders of an answer, and nothing else.
pub record Just (o : Orders) (d : List ℕ) (a : Answer) : Type 0 where
  pub number : o ≡ held (orders_in a)
  pub duties : d ≡ duties_in (orders_in a)

-- The number and the first duties can hold this list of orders.
abbrev pub Whole : List Spec.Order → Type 0
Whole l = orders_of (held l) (duties_in l) ≡ l
