use borrow.Author.Rules.{rules}
use Rattle.csv_keys.proofs.Rows.{header_is}
use Rattle.csv_keys.proofs.same_header.Goals as goal

pub returns : goal.returns
returns c = search (header_is, rules)
