use borrow.Author.Rules.{rules}
use mathlib.Core.Path.{refl}
use Rattle.oul_c.proofs.Laws.{absent-tells, found-tells}
use Rattle.oul_c.proofs.oul_segment.Goals as goal

pub returns-in-Some : goal.returns-in-Some
returns-in-Some c = found-tells _ _ _ c.in-Some.ensures.told _ refl (c.in-Some.ensures.within _ refl)

pub returns-in-None : goal.returns-in-None
returns-in-None c = search (absent-tells, rules)
