-- `case_text::numbers::read_number` meets its contract: the digits from `from` to `end` have come to `value`.
use Rattle.std.proofs.Common.{◌≡◌, ◌+◌, ◌<◌, drop}
use Rattle.case_text.specs.Numbers.{past64, digits, number_at}
use Rattle.case_text.proofs.NumberLaws.{read_digits}
use Rattle.case_text.proofs.numbers.read_number.Given as goal

abbrev pub invariant-loop-byte : goal.invariant-loop-byte
invariant-loop-byte l = record {
  fits : l.value < past64;
  place : l.end ≡ l.from + l.byte-index;
  read : number_at l.line l.from ≡ read_digits (digits (drop l.byte-index l.byte-items)) l.from l.value l.end;
}
