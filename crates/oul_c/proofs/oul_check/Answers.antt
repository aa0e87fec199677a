use borrow.Author.Rules.{rules}
use Rattle.oul_c.proofs.Laws.{accepted-tells, refused-tells}
use Rattle.oul_c.proofs.oul_check.Goals as goal

pub returns-in-Ok : goal.returns-in-Ok
returns-in-Ok c = search (accepted-tells, rules)

pub returns-in-Err : goal.returns-in-Err
returns-in-Err c = search (refused-tells, rules)
