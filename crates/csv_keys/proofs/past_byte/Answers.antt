use borrow.Author.Rules.{rules}
use Rattle.csv_keys.proofs.Items.{next_last, next-two, next_one}
use Rattle.csv_keys.proofs.past_byte.Goals as goal

pub returns-then-j-raw : goal.returns-then-j-raw
returns-then-j-raw c = search (next_last, rules)

pub returns-then-raw-i-eq34 : goal.returns-then-raw-i-eq34
returns-then-raw-i-eq34 c = search (next-two, rules)

pub returns : goal.returns
returns c = search (next_one, rules)
