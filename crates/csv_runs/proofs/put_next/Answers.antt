use borrow.Author.Rules.{rules}
use Rattle.csv_runs.proofs.Sheet.{put-none}
use Rattle.csv_runs.proofs.put_next.Goals as goal

pub returns-else-asked : goal.returns-else-asked
returns-else-asked c = search (put-none, rules)
