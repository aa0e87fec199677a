use borrow.Author.Rules.{rules}
use Rattle.csv_keys.proofs.Items.{word-key}
use Rattle.csv_keys.proofs.in_place.Goals as goal

pub returns : goal.returns
returns c = search (word-key, rules)
