-- Orders to the hardware as numbers, with the first duties beside them.
-- Added: in document 01 the orders leave in the result of a call, and answers are numbers.
-- Assumes nothing.
use Rattle.std.specs.Prelude.{ℕ, ◌+◌, ◌*◌, List, [], ◌∷◌, replicate}
use Rattle.dshot_bank_spec.specs.Order.{Order, exchange_buffer, start_dma, start_frame, stop_frame, force_outputs_low, pause_and_clear, begin_receive, end_receive}

-- the number of an order: 8 x its kind + its lane; if it is for all lanes, the lane is 0
abbrev pub code : Order → ℕ
code (exchange_buffer m) = 8 * 1 + m
code (start_dma m) = 8 * 2 + m
code (start_frame d) = 8 * 3
code stop_frame = 8 * 4
code force_outputs_low = 8 * 5
code (pause_and_clear m) = 8 * 6 + m
code begin_receive = 8 * 7
code end_receive = 8 * 8

-- the first duties in a list of orders; zeros if there are none
abbrev pub duties_in : List Order → List ℕ
duties_in [] = replicate 4 0
duties_in (exchange_buffer m ∷ l) = duties_in l
duties_in (start_dma m ∷ l) = duties_in l
duties_in (start_frame d ∷ l) = d
duties_in (stop_frame ∷ l) = duties_in l
duties_in (force_outputs_low ∷ l) = duties_in l
duties_in (pause_and_clear m ∷ l) = duties_in l
duties_in (begin_receive ∷ l) = duties_in l
duties_in (end_receive ∷ l) = duties_in l
