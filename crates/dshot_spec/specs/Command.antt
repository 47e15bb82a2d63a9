-- A run of special commands for one motor: each command is sent a number of times, one after the other.
-- Stands for `DshotCommandSequence` of crates/ferrowasp-output/src/dshot.rs (Eirik2020/ferro-wasp, commit 9cb8aca1a6, Copyright (c) 2026 Kaldstrand,
-- Apache-2.0), changed: rewritten as definitions. They hold for any list of commands and 1 to 255 repeats.
-- Assumes nothing.
use Rattle.std.specs.Prelude.{ℕ, zero, suc, ◌+◌, ◌%◌, Bool, List, [], ◌∷◌, ◌++◌, length, replicate, ◌==◌, nat_lt, slice_index, if◌then◌else◌}

-- a run: its commands, which of them is next, and how often that one is still to be sent
pub record CommandRun : Type 0 where
  pub commands : List ℕ
  pub index : ℕ
  pub repeats_left : ℕ

-- the run of a direction command, 20 (normal) or 21 (reversed), and then 12 (save settings), ten times each
unfoldable pub spin_direction : Bool → CommandRun
spin_direction reversed = record { commands = (if reversed then 21 else 20) ∷ 12 ∷ []; index = 0; repeats_left = 10 }

-- the command for the next frame, if there is one
pub data Command : Type 0 where
  none : Command
  send : ℕ → Command

-- the command for the next frame, and the run after it
pub record Next : Type 0 where
  pub command : Command
  pub run : CommandRun

-- the run after a frame, if `left` frames of its command are still to be sent; at 0 the next command is due
abbrev pub counted : ℕ → CommandRun → ℕ → CommandRun
counted repeats run left =
    if left == 0
    then record { commands = run.commands; index = run.index + 1; repeats_left = repeats }
    else record { commands = run.commands; index = run.index; repeats_left = left }

-- One step of a run. The count is a byte and wraps, so a count of 0 means 256. No run of `spin_direction` reaches 0.
unfoldable pub next_value : ℕ → CommandRun → Next
next_value repeats run =
    if nat_lt run.index (length run.commands)
    then record { command = send (slice_index run.commands run.index); run = counted repeats run ((run.repeats_left + 255) % 256) }
    else record { command = none; run = run }

-- the next n commands of a run
abbrev pub sent_by : ℕ → ℕ → CommandRun → List Command
sent_by repeats zero run = []
sent_by repeats (suc n) run = (next_value repeats run).command ∷ sent_by repeats n (next_value repeats run).run

-- each command r times, in order
abbrev pub repeated : ℕ → List ℕ → List Command
repeated r [] = []
repeated r (c ∷ cs) = replicate r (send c) ++ repeated r cs
