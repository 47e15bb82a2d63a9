-- `case_text::numbers::read_each` meets its contract: the numbers so far are those of the words so far.
use Rattle.std.proofs.Common.{◌≡◌, ◌≤◌, length, map, Some}
use Rattle.case_text.specs.Numbers.{whole_number}
use Rattle.case_text.proofs.numbers.read_each.Given as goal

abbrev pub invariant-loop-word : goal.invariant-loop-word
invariant-loop-word g l = record {
  few : length l.numbers.items ≤ g.row.N;
  read : map (λ w. whole_number w.now) l.yielded ≡ map Some l.numbers.items;
}
