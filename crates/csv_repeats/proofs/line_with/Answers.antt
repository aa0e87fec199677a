use borrow.Author.Rules.{rules}
use Rattle.csv_repeats.proofs.Laws.{line_stays, line-here}
use Rattle.csv_repeats.proofs.line_with.Goals as goal

pub returns-then-after-unkept : goal.returns-then-after-unkept
returns-then-after-unkept c = search (line_stays, rules)

pub returns : goal.returns
returns c = search (line-here, rules)
