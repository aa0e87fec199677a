use borrow.Author.Rules.{rules}
use Rattle.oul_c.proofs.Laws.{line-tells}
use Rattle.oul_c.proofs.oul_csv_spot.Goals as goal

pub returns : goal.returns
returns c = search (line-tells, rules)
