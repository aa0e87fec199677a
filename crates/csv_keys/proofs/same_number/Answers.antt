use borrow.Author.Rules.{rules}
use Rattle.csv_keys.proofs.Rows.{number_is_lem}
use Rattle.csv_keys.proofs.same_number.Goals as goal

pub returns : goal.returns
returns c = search (number_is_lem, rules)
