use borrow.Author.Rules.{rules}
use Rattle.csv_keys.proofs.Rows.{name-is}
use Rattle.csv_keys.proofs.same_name.Goals as goal

pub returns : goal.returns
returns c = search (name-is, rules)
