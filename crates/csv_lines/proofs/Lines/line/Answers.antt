use borrow.Author.Rules.{rules}
use Rattle.csv_lines.proofs.Groups.{by-is}
use Rattle.csv_lines.proofs.Lines.line.Goals as goal

pub returns : goal.returns
returns c = search (by-is, rules)
