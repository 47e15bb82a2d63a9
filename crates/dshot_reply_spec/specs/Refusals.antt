-- All numbers of refusals: document 01's, 1 to 17 because of the input, 18 to 22 because of a bank's state; and document 02's, 24 to 26 for dumps.
-- Assumes nothing.
use Rattle.std.specs.Prelude.{ℕ}

abbrev pub zero_timer_clock : ℕ
zero_timer_clock = 1

abbrev pub zero_bitrate : ℕ
zero_bitrate = 2

abbrev pub period_too_short : ℕ
period_too_short = 3

abbrev pub period_too_long : ℕ
period_too_long = 4

abbrev pub value_out_of_range : ℕ
value_out_of_range = 5

abbrev pub throttle_out_of_range : ℕ
throttle_out_of_range = 6

abbrev pub no_reply : ℕ
no_reply = 7

abbrev pub overlong : ℕ
overlong = 8

abbrev pub invalid_symbol : ℕ
invalid_symbol = 9

abbrev pub wrong_checksum : ℕ
wrong_checksum = 10

abbrev pub zero_period : ℕ
zero_period = 11

-- a capture is to be made with mask 0
abbrev pub no_mask : ℕ
no_mask = 12

-- the lane does not exist: its number is too large
abbrev pub no_such_motor : ℕ
no_such_motor = 12

abbrev pub wrong_length : ℕ
wrong_length = 13

abbrev pub wrong_duty : ℕ
wrong_duty = 14

abbrev pub wrong_packet_checksum : ℕ
wrong_packet_checksum = 15

abbrev pub period_out_of_range : ℕ
period_out_of_range = 16

abbrev pub not_acapture : ℕ
not_acapture = 17

-- ---- because of a bank's state

abbrev pub faulted : ℕ
faulted = 18

abbrev pub motors_running : ℕ
motors_running = 19

abbrev pub command_pending : ℕ
command_pending = 20

abbrev pub telemetry_pending : ℕ
telemetry_pending = 21

abbrev pub replies_unsupported : ℕ
replies_unsupported = 22

-- ---- dumps

-- the text breaks the syntax, an argument is out of its range, or a sample has no level
abbrev pub broken_dump : ℕ
broken_dump = 24

-- the name is declared never or more than once
abbrev pub not_declared_once : ℕ
not_declared_once = 25

-- a time is smaller than the one before it
abbrev pub time_falls : ℕ
time_falls = 26
