-- `dshot::read::read_word` meets its contract: before each turn of the loop the word so far and the duties left give the whole.
use Rattle.std.proofs.Common.{◌≡◌, ◌+◌, ◌^◌, ◌<◌, ◌∷◌, drop}
use Rattle.dshot_spec.specs.Sequence.{word_from}
use Rattle.dshot.specs.Answers.{timing_of}
use Rattle.dshot.proofs.read.read_word.Given as goal

abbrev pub invariant-loop-duty : goal.invariant-loop-duty
invariant-loop-duty l =
    record {
      small : l.word < 2 ^ (l.duty-index + 1);
      rest : word_from (timing_of l.timing) 0 (l.first ∷ l.slots) ≡ word_from (timing_of l.timing) l.word (drop l.duty-index l.slots);
    }
