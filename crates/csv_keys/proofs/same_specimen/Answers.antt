use borrow.Author.Rules.{rules}
use Rattle.csv_keys.proofs.Rows.{specimen-is}
use Rattle.csv_keys.proofs.same_specimen.Goals as goal

pub returns : goal.returns
returns c = search (specimen-is, rules)
