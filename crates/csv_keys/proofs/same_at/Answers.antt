use borrow.Author.Rules.{rules}
use Rattle.csv_keys.proofs.Rows.{same-items, same_keys_lem}
use Rattle.csv_keys.proofs.same_at.Goals as goal

pub returns-then-equal : goal.returns-then-equal
returns-then-equal c = search (same-items, rules)

pub returns : goal.returns
returns c = search (same_keys_lem, rules)
