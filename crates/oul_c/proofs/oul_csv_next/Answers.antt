use Rattle.oul_c.proofs.Laws.{next-tells}
use borrow.Author.Rules.{rules}
use Rattle.oul_c.proofs.oul_csv_next.Goals as goal

pub returns : goal.returns
returns c = search (next-tells, rules)
