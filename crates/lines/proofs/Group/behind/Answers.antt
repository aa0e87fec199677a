use borrow.Author.Rules.{rules}
use Rattle.lines.proofs.Laws.{behind-place, behind-shorter}
use Rattle.lines.proofs.Group.behind.Goals as goal

pub returns-clause-place : goal.returns-clause-place
returns-clause-place c = search (behind-place, rules)

pub returns-clause-shorter : goal.returns-clause-shorter
returns-clause-shorter c = search (behind-shorter, rules)
