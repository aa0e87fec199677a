use borrow.Author.Rules.{rules}
use Rattle.csv_check.proofs.Lines.{before-yes, before-no}
use Rattle.csv_check.proofs.before_rows.Goals as goal

pub returns-then-line-lt3 : goal.returns-then-line-lt3
returns-then-line-lt3 c = search (before-yes, rules)

pub returns : goal.returns
returns c = search (before-no, rules)
