-- `case_text::numbers::read_parts` meets its contract: the iterator gives the words of the line.
use Rattle.std.proofs.Common.{ap, sym, ◌∙◌, rules, tests}
use Rattle.std.proofs.lemmas.Iterator.Consumers.{YieldsList-at, YieldsList-from_filter}
use Rattle.std.proofs.lemmas.Iterator.Splits.{YieldsList-from_slice_split}
use Rattle.case_text.specs.Numbers.{numbers_within, words_of, has_byte}
use Rattle.case_text.proofs.WordLaws.{read_from_yields_List}
use Rattle.case_text.proofs.numbers.read_parts.Goals as goal

pub returns-in-One : goal.returns-in-One
returns-in-One g c =
    read_from_yields_List g.row.N (λ _. c.read_each.new.numbers.items) c.read_each.result
    (YieldsList-from_slice_split _ _ c.args.line.now c.split-parts.ensures.rest c.split-parts.ensures.done c.split-parts.ensures.closure (λ x r q k. search (rules, tests)))
    c.read_each.ensures.few c.read_each.ensures.read c.read_each.ensures.refused
    ∙ ap (λ spaces. numbers_within g.row.N (words_of spaces c.args.line.now)) (sym c.in-One.is)

pub returns-in-Any : goal.returns-in-Any
returns-in-Any g c =
    read_from_yields_List g.row.N (λ _. c.read_each-in-Any.new.numbers.items) c.read_each-in-Any.result
    (YieldsList-from_filter _ has_byte
    (YieldsList-at c.filter.ensures.source (YieldsList-from_slice_split _ _ c.args.line.now c.split-parts.ensures.rest c.split-parts.ensures.done c.split-parts.ensures.closure (λ x r q k. search (rules, tests))))
    c.filter.ensures.closure (λ x r q k. search (rules, tests)))
    c.read_each-in-Any.ensures.few c.read_each-in-Any.ensures.read c.read_each-in-Any.ensures.refused
    ∙ ap (λ spaces. numbers_within g.row.N (words_of spaces c.args.line.now)) (sym c.in-Any.is)
