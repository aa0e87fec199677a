use borrow.Author.Rules.{rules}
use Rattle.csv_keys.proofs.Items.{given-none, given-key}
use Rattle.csv_keys.proofs.given.Goals as goal

pub returns-then-at-raw : goal.returns-then-at-raw
returns-then-at-raw c = search (given-none, rules)

pub returns : goal.returns
returns c = search (given-key, rules)
