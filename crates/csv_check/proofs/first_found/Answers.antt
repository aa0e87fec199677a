use borrow.Author.Rules.{rules}
use Rattle.csv_check.proofs.Lines.{found-yes, found-no}
use Rattle.csv_check.proofs.first_found.Goals as goal

pub returns-then-found-passes : goal.returns-then-found-passes
returns-then-found-passes c = search (found-yes, rules)

pub returns : goal.returns
returns c = search (found-no, rules)
