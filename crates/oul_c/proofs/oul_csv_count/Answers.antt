use Rattle.oul_c.proofs.Laws.{sheets-tells, uncounted-tells}
use borrow.Author.Rules.{rules}
use Rattle.oul_c.proofs.oul_csv_count.Goals as goal

pub returns-in-Ok : goal.returns-in-Ok
returns-in-Ok c = search (sheets-tells, rules)

pub returns-in-Err : goal.returns-in-Err
returns-in-Err c = search (uncounted-tells, rules)
