use borrow.Author.Rules.{rules}
use Rattle.rules.specs.Lists.{bytes}
use Rattle.csv_lines.proofs.Groups.{status-is}
use Rattle.csv_lines.proofs.Lines.status.Goals as goal

pub returns : goal.returns
unfolding bytes
returns c = search (status-is, rules)
