-- `bank_slots::numbers::tell` meets its contract: of a list, the orders so far are written.
use Rattle.std.proofs.Common.{◌≡◌, ◌+◌, length, take}
use Rattle.bank_slots_spec.specs.Memory.{write}
use Rattle.bank_slots_spec.specs.Parts.{slot_rows}
use Rattle.bank_slots.proofs.numbers.tell.Given as goal

abbrev pub invariant-loop-i : goal.invariant-loop-i
invariant-loop-i g l = l.slots ≡ write (slot_rows 2 (take l.i l.first)) l.initial.slots

abbrev pub invariant-loop-i-2 : goal.invariant-loop-i-2
invariant-loop-i-2 g l = l.slots ≡ write (slot_rows (2 + length l.first) (take l.i l.then)) l.initial.slots
