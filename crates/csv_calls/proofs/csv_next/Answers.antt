use Rattle.csv_calls.proofs.Sheet.{next-none}
use borrow.Author.Rules.{rules}
use Rattle.csv_calls.proofs.csv_next.Goals as goal

pub returns-then-file-at : goal.returns-then-file-at
returns-then-file-at c = search (next-none, rules)
