use borrow.Author.Rules.{rules}
use Rattle.rules.specs.Lists.{bytes}
use Rattle.csv_lines.proofs.Groups.{order_is}
use Rattle.csv_lines.proofs.Lines.order.Goals as goal

pub returns : goal.returns
unfolding bytes
returns c = search (order_is, rules)
