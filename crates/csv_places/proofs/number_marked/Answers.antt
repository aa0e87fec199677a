use borrow.Author.Rules.{rules}
use Rattle.csv_places.proofs.Laws.{mark-other}
use Rattle.csv_places.proofs.number_marked.Goals as goal

pub returns : goal.returns
returns c = search (mark-other, rules)
