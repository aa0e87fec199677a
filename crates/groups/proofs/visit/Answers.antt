use borrow.Author.Rules.{rules}
use Rattle.groups.proofs.Laws.{visit-is}
use Rattle.groups.proofs.visit.Goals as goal

pub returns : goal.returns
returns c = search (visit-is, rules)
