use borrow.Author.Rules.{rules}
use Rattle.oul_c.proofs.Laws.{wrote-tells, unwritten-tells}
use Rattle.oul_c.proofs.written.Goals as goal

pub returns-in-Ok : goal.returns-in-Ok
returns-in-Ok c = search (wrote-tells, rules)

pub returns-in-Err : goal.returns-in-Err
returns-in-Err c = search (unwritten-tells, rules)
