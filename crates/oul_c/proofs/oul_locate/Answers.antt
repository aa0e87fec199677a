use borrow.Author.Rules.{rules}
use Rattle.oul_c.proofs.Laws.{at-tells, unfetched-tells}
use Rattle.oul_c.proofs.oul_locate.Goals as goal

pub returns-in-Ok : goal.returns-in-Ok
returns-in-Ok c = search (at-tells, rules)

pub returns-in-Err : goal.returns-in-Err
returns-in-Err c = search (unfetched-tells, rules)
