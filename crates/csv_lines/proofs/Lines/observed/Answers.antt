use borrow.Author.Rules.{rules}
use Rattle.rules.specs.Lists.{bytes}
use Rattle.csv_lines.proofs.Groups.{observed-is}
use Rattle.csv_lines.proofs.Lines.observed.Goals as goal

pub returns : goal.returns
unfolding bytes
returns c = search (observed-is, rules)
