use borrow.Author.Rules.{rules}
use Rattle.lines.proofs.Laws.{places-line}
use Rattle.lines.proofs.Group.has_line.Goals as goal

pub returns : goal.returns
returns c = search (places-line, rules)
