use borrow.Author.Rules.{rules}
use Rattle.csv_check.proofs.Lines.{spot-none, spot-one, spot-rows, spot-columns}
use Rattle.csv_check.proofs.count_spot.Goals as goal

pub returns-then-lines-eq0 : goal.returns-then-lines-eq0
returns-then-lines-eq0 c = search (spot-none, rules)

pub returns-then-lines-eq1 : goal.returns-then-lines-eq1
returns-then-lines-eq1 c = search (spot-one, rules)

pub returns-then-is_some : goal.returns-then-is_some
returns-then-is_some c = search (spot-rows, rules)

pub returns : goal.returns
returns c = search (spot-columns, rules)
