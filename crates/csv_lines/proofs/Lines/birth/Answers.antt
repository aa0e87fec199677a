use borrow.Author.Rules.{rules}
use Rattle.rules.specs.Lists.{bytes}
use Rattle.csv_lines.proofs.Groups.{birth-is}
use Rattle.csv_lines.proofs.Lines.birth.Goals as goal

pub returns : goal.returns
unfolding bytes
returns c = search (birth-is, rules)
