use borrow.Author.Rules.{rules}
use Rattle.oul_c.proofs.Laws.{written-tells}
use Rattle.oul_c.proofs.oul_part_text.Goals as goal

pub returns : goal.returns
returns c = search (written-tells, rules)
