use borrow.Author.Rules.{rules}
use Rattle.csv_lines.proofs.Groups.{line-is}
use Rattle.csv_lines.proofs.Lines.plain_line.Goals as goal

pub returns : goal.returns
returns c = search (line-is, rules)
