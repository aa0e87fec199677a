use borrow.Author.Rules.{rules}
use Rattle.csv_keys.proofs.Items.{as-is-key}
use Rattle.csv_keys.proofs.as_is.Goals as goal

pub returns : goal.returns
returns c = search (as-is-key, rules)
