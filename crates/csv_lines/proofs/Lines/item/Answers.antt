use borrow.Author.Rules.{rules}
use Rattle.rules.specs.Lists.{bytes}
use Rattle.csv_lines.proofs.Groups.{item-is}
use Rattle.csv_lines.proofs.Lines.item.Goals as goal

pub returns : goal.returns
unfolding bytes
returns c = search (item-is, rules)
