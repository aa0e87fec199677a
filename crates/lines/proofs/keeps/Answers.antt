use Rattle.lines.proofs.Laws.{keeps-is}
use borrow.Author.Rules.{rules}
use Rattle.lines.proofs.keeps.Goals as goal

pub returns : goal.returns
returns c = search (keeps-is, rules)
