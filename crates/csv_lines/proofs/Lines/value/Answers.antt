use borrow.Author.Rules.{rules}
use Rattle.csv_lines.proofs.Groups.{value-is}
use Rattle.csv_lines.proofs.Lines.value.Goals as goal

pub returns : goal.returns
returns c = search (value-is, rules)
