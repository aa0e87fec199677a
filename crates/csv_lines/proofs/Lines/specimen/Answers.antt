use borrow.Author.Rules.{rules}
use Rattle.rules.specs.Lists.{bytes}
use Rattle.csv_lines.proofs.Groups.{specimen-is}
use Rattle.csv_lines.proofs.Lines.specimen.Goals as goal

pub returns : goal.returns
unfolding bytes
returns c = search (specimen-is, rules)
