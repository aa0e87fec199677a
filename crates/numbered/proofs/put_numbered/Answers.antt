use borrow.Author.Rules.{rules}
use Rattle.numbered.proofs.Texts.{number_short, number_is_lem, number_size, numbered-specimen, numbered-result}
use Rattle.writer.proofs.Laws.{front-within}
use Rattle.numbered.proofs.put_numbered.Goals as goal

pub put_number-len-requires : goal.put_number-len-requires
put_number-len-requires c = search (number_short, rules)

pub slice_bounds-number-end : goal.slice_bounds-number-end
slice_bounds-number-end c = search (front-within, rules)

pub slice_bounds-digits-end : goal.slice_bounds-digits-end
slice_bounds-digits-end c = search (front-within, rules)

pub specimen-requires : goal.specimen-requires
specimen-requires c = (search rules, search (number_size, rules))

pub returns-then-is : goal.returns-then-is
returns-then-is c = record { fit = search (numbered-specimen, number_is_lem, rules); within = search rules }

pub result-requires : goal.result-requires
result-requires c = (search rules, search (number_size, rules))

pub returns : goal.returns
returns c = record { fit = search (numbered-result, number_is_lem, rules); within = search rules }
