use borrow.Author.Rules.{rules}
use Rattle.csv_keys.proofs.Rows.{order_is}
use Rattle.csv_keys.proofs.same_order.Goals as goal

pub returns : goal.returns
returns c = search (order_is, rules)
