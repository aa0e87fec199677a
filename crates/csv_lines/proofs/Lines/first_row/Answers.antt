use borrow.Author.Rules.{rules}
use Rattle.csv_lines.proofs.Groups.{first-is}
use Rattle.csv_lines.proofs.Lines.first_row.Goals as goal

pub returns : goal.returns
returns c = search (first-is, rules)
