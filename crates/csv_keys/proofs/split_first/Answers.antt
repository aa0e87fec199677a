use borrow.Author.Rules.{rules}
use Rattle.csv_keys.proofs.Compare.{first-lead, first-none, first-raw}
use Rattle.csv_keys.proofs.split_first.Goals as goal

pub returns-then-lead-gt0 : goal.returns-then-lead-gt0
returns-then-lead-gt0 c = search (first-lead, rules)

pub returns-then-raw-eq0 : goal.returns-then-raw-eq0
returns-then-raw-eq0 c = search (first-none, rules)

pub returns : goal.returns
returns c = search (first-raw, rules)
