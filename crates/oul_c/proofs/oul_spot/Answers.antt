use borrow.Author.Rules.{rules}
use Rattle.oul_c.proofs.Laws.{spot-tells}
use Rattle.oul_c.proofs.oul_spot.Goals as goal

pub returns : goal.returns
returns c = search (spot-tells, rules)
