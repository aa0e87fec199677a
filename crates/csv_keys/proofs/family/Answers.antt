use borrow.Author.Rules.{rules}
use Rattle.csv_keys.proofs.Items.{family-key}
use Rattle.csv_keys.proofs.family.Goals as goal

pub returns : goal.returns
returns c = search (family-key, rules)
