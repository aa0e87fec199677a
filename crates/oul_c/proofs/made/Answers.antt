use Rattle.oul_c.proofs.Laws.{sheet-tells, unfit-tells, faulty-tells}
use borrow.Author.Rules.{rules}
use Rattle.oul_c.proofs.made.Goals as goal

pub returns-in-Ok : goal.returns-in-Ok
returns-in-Ok c = search (sheet-tells, rules)

pub returns-in-Err-Unfit : goal.returns-in-Err-Unfit
returns-in-Err-Unfit c = search (unfit-tells, rules)

pub returns-in-Err-Faulty : goal.returns-in-Err-Faulty
returns-in-Err-Faulty c = search (faulty-tells, rules)
