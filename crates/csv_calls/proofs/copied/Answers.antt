use Rattle.csv_calls.proofs.Sheet.{copied-45, copied_all}
use borrow.Author.Rules.{rules}
use Rattle.csv_calls.proofs.copied.Goals as goal

pub returns-then-out-sheet : goal.returns-then-out-sheet
returns-then-out-sheet c = search (copied-45, rules)

pub returns : goal.returns
returns c = search (copied_all, rules)
