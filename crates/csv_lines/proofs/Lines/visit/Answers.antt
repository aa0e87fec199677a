use borrow.Author.Rules.{rules}
use Rattle.rules.specs.Lists.{bytes}
use Rattle.csv_lines.proofs.Groups.{visit-is}
use Rattle.csv_lines.proofs.Lines.visit.Goals as goal

pub returns : goal.returns
unfolding bytes
returns c = search (visit-is, rules)
