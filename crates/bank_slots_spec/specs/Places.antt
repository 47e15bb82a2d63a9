-- Where each field of a bank of four lanes lies in its 97 slots of 16 bits. A number of 32 bits takes two slots from its place on, and one of 64 bits
-- takes four.
-- Added: document 01 asks for calls from C.
-- Assumes nothing.
use Rattle.std.specs.Prelude.{ℕ}

abbrev pub slots : ℕ
slots = 97

-- the four counts of the timing
abbrev pub TIMING : ℕ
TIMING = 0

-- the four requested values
abbrev pub VALUES : ℕ
VALUES = 4

-- when the lease started, 64 bits
abbrev pub LEASE_STARTED : ℕ
LEASE_STARTED = 8

-- 64 bits: 0 without a lease, else its duration + 1
abbrev pub LEASE_OVER : ℕ
LEASE_OVER = 12

-- the pending telemetry request: 0 for none, else lane + 1
abbrev pub REQUEST : ℕ
REQUEST = 16

-- the telemetry request that was sent: 0 for none, else lane + 1
abbrev pub REQUEST_SENT : ℕ
REQUEST_SENT = 17

-- a run: 0 for none, else lane + 1; then its four slots
abbrev pub RUN : ℕ
RUN = 18

-- six flags, one slot each
abbrev pub BUSY : ℕ
BUSY = 23

abbrev pub FAULTED : ℕ
FAULTED = 24

abbrev pub BIDIRECTIONAL : ℕ
BIDIRECTIONAL = 25

abbrev pub RECEIVING : ℕ
RECEIVING = 26

abbrev pub REPLIES_WAITING : ℕ
REPLIES_WAITING = 27

abbrev pub REPLIES_HELD : ℕ
REPLIES_HELD = 28

-- a flag for each lane: whether it sends from the second buffer
abbrev pub IN_SECOND : ℕ
IN_SECOND = 29

-- 32 bits
abbrev pub COMPLETION_MASK : ℕ
COMPLETION_MASK = 33

-- when the frame set started, 64 bits
abbrev pub STARTED : ℕ
STARTED = 35

-- the counts of 32 bits, in the order of the Rust's `DshotStats`
abbrev pub FRAMES_STARTED : ℕ
FRAMES_STARTED = 39

abbrev pub FRAMES_COMPLETED : ℕ
FRAMES_COMPLETED = 41

abbrev pub LANE_COMPLETIONS : ℕ
LANE_COMPLETIONS = 43

abbrev pub BUSY_SKIPS : ℕ
BUSY_SKIPS = 51

abbrev pub LEASE_EXPIRIES : ℕ
LEASE_EXPIRIES = 53

abbrev pub FRAME_TIMEOUTS : ℕ
FRAME_TIMEOUTS = 55

abbrev pub DMA_FAULTS : ℕ
DMA_FAULTS = 57

abbrev pub SPURIOUS : ℕ
SPURIOUS = 59

-- the replies: lane i has nine slots from REPLIES + 9 * i on
abbrev pub REPLIES : ℕ
REPLIES = 61
