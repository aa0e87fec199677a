use borrow.Author.Rules.{rules}
use Rattle.number.proofs.Laws.{number_is_lem}
use Rattle.number.proofs.is_number.Goals as goal

pub returns : goal.returns
returns c = search (number_is_lem, rules)
