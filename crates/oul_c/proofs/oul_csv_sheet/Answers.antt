use Rattle.oul_c.proofs.Laws.{made_tells}
use borrow.Author.Rules.{rules}
use Rattle.oul_c.proofs.oul_csv_sheet.Goals as goal

pub returns : goal.returns
returns c = search (made_tells, rules)
