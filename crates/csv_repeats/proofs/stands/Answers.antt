use borrow.Author.Rules.{rules}
use Rattle.csv_repeats.proofs.Laws.{stands_same, stands-other}
use Rattle.csv_repeats.proofs.stands.Goals as goal

pub returns-then-first-at : goal.returns-then-first-at
returns-then-first-at c = search (stands_same, rules)

pub returns : goal.returns
returns c = search (stands-other, rules)
