-- Reading each lane's last receive window, and the counts of its replies.
-- Stands for `decode_replies` of crates/ferrowasp-stm32-critical/src/dshot_bank.rs (Eirik2020/ferro-wasp, commit 9cb8aca1a6, Copyright (c) 2026
-- Kaldstrand, Apache-2.0), changed: rewritten as definitions, over n lanes. The windows are in one buffer.
-- Assumes nothing.
use Rattle.std.specs.Prelude.{ℕ, ◌+◌, ◌-◌, ◌%◌, ◌^◌, min, Bool, false, List, get_or, if◌then◌else◌}
use Rattle.dshot_reply_spec.specs.Answer.{Answer, refused, is_given}
use Rattle.dshot_reply_spec.specs.Refusals.{no_reply}
use Rattle.dshot_reply_spec.specs.Value.{Reading}
use Rattle.dshot_reply_spec.specs.Reading.{sampled_reply}
use Rattle.dshot_spec.specs.Tabulate.{tabulate, part}
use Rattle.dshot_bank_spec.specs.State.{LaneReply}
use Rattle.dshot_bank_spec.specs.Commands.{no_replies}

-- the Rust's `wrapping_add(1)` of a count
abbrev pub wrapping_add : ℕ → ℕ
wrapping_add count = (count + 1) % 2 ^ 32

-- the Rust's `saturating_add(1)` of a count
abbrev pub saturating_add : ℕ → ℕ
saturating_add count = min (count + 1) (2 ^ 32 - 1)

-- a lane's window: its 160 samples of the capture buffer
abbrev pub window : List ℕ → ℕ → List ℕ
window samples lane = part 160 lane samples

-- A lane's reply: what the reader makes of its window and mask, with EDT off. If no capture is present, it is 7 (no reply).
abbrev pub read_window : Bool → List ℕ → ℕ → Answer Reading
read_window present samples mask = if present then sampled_reply 3 samples mask false else refused no_reply

-- a lane's record after one more reply
unfoldable pub count_reply : Answer Reading → LaneReply → LaneReply
count_reply reply l =
    if is_given reply
    then record { reply = reply; valid = wrapping_add l.valid; invalid = l.invalid; consecutive_invalid = 0 }
    else record { reply = reply; valid = l.valid; invalid = wrapping_add l.invalid; consecutive_invalid = saturating_add l.consecutive_invalid }

-- one lane's part of `decode_replies`
abbrev pub decode_lane : List Bool → List ℕ → List ℕ → List LaneReply → ℕ → LaneReply
decode_lane present masks samples old lane =
    count_reply (read_window (get_or present lane false) (window samples lane) (get_or masks lane 0)) (get_or old lane no_replies)

-- the Rust's `decode_replies`
unfoldable pub decode_replies : ℕ → List Bool → List ℕ → List ℕ → List LaneReply → List LaneReply
decode_replies n present masks samples old = tabulate n (decode_lane present masks samples old)
