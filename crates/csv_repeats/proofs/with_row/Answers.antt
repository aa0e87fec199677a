use borrow.Author.Rules.{rules}
use Rattle.csv_repeats.proofs.Laws.{with-is}
use Rattle.csv_repeats.proofs.with_row.Goals as goal

pub returns : goal.returns
returns c = search (with-is, rules)
