use borrow.Author.Rules.{rules}
use Rattle.csv_runs.proofs.Sheet.{then-asked}
use Rattle.csv_runs.proofs.put_first.Goals as goal

pub returns-then-asked : goal.returns-then-asked
returns-then-asked c = search (then-asked, rules)
