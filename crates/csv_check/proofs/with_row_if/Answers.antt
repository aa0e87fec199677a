use borrow.Author.Rules.{rules}
use Rattle.csv_check.proofs.Repeating.{ask-few, ask-place, ask-table, if-asked, if-not}
use Rattle.csv_check.proofs.with_row_if.Goals as goal

pub with_row-requires : goal.with_row-requires
with_row-requires c = (search (ask-few, rules), search (ask-place, rules), search (ask-table, rules))

pub returns-then-asked : goal.returns-then-asked
returns-then-asked c = search (if-asked, rules)

pub returns : goal.returns
returns c = search (if-not, rules)
