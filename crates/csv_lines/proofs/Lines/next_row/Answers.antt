use borrow.Author.Rules.{rules}
use Rattle.csv_lines.proofs.Groups.{next-specimen, next-order, next-result}
use Rattle.csv_lines.proofs.Lines.next_row.Goals as goal

pub returns-then-not-same_specimen : goal.returns-then-not-same_specimen
returns-then-not-same_specimen c = search (next-specimen, rules)

pub returns-then-not-same_order : goal.returns-then-not-same_order
returns-then-not-same_order c = search (next-order, rules)

pub returns : goal.returns
returns c = search (next-result, rules)
