use borrow.Author.Rules.{rules}
use Rattle.csv_lines.proofs.Groups.{name-is}
use Rattle.csv_lines.proofs.Lines.name.Goals as goal

pub returns : goal.returns
returns c = search (name-is, rules)
