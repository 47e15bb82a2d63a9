-- `bank_slots::looks::reply_stats` meets its contract: the counts so far are copied, and of the next one those of the lanes so far.
use Rattle.std.proofs.Common.{◌≡◌}
use Rattle.dshot_bank_spec.specs.Lanes.{each}
use Rattle.bank_slots.proofs.Copied.{count_copied, counts_copied}
use Rattle.bank_slots.proofs.looks.reply_stats.Given as goal

abbrev pub invariant-loop-count : goal.invariant-loop-count
invariant-loop-count l = l.out ≡ each l.count (counts_copied l.state) l.initial.out

abbrev pub invariant-loop-lane : goal.invariant-loop-lane
invariant-loop-lane l = l.out ≡ each l.lane (count_copied l.state l.count) l.initial.out
