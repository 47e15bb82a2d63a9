-- `dshot_bank::replies::read_windows` meets its contract: before each turn the windows of the lanes so far are read.
use Rattle.std.proofs.Common.{ℕ, false, map, get_or}
use Rattle.dshot_spec.proofs.Tabulated.{Filled}
use Rattle.dshot_bank_spec.specs.Replies.{window, read_window}
use Rattle.dshot_bank.specs.States.{stored_answer}
use Rattle.dshot_bank.proofs.replies.read_windows.Given as goal

abbrev pub invariant-loop-lane : goal.invariant-loop-lane
invariant-loop-lane l =
    Filled 4 (λ (i : ℕ). read_window (get_or l.answers.present i false) (window l.captures i) (get_or l.answers.masks i 0)) (map stored_answer l.initial.reads) l.lane (map stored_answer l.reads)
