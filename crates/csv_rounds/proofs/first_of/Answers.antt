use borrow.Author.Rules.{rules}
use Rattle.csv_rounds.proofs.Laws.{first-none, first-other, first-own}
use Rattle.csv_rounds.proofs.first_of.Goals as goal

pub returns-then-a-eq0 : goal.returns-then-a-eq0
returns-then-a-eq0 c = search (first-none, rules)

pub returns-then-b-a : goal.returns-then-b-a
returns-then-b-a c = search (first-other, rules)

pub returns : goal.returns
returns c = search (first-own, rules)
