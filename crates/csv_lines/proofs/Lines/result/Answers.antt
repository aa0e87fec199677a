use borrow.Author.Rules.{rules}
use Rattle.csv_lines.proofs.Groups.{result-is}
use Rattle.csv_lines.proofs.Lines.result.Goals as goal

pub returns : goal.returns
returns c = search (result-is, rules)
