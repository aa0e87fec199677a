use borrow.Author.Rules.{rules}
use Rattle.header.proofs.Laws.{different-is}
use Rattle.header.proofs.different.Goals as goal

pub returns : goal.returns
returns c = search (different-is, rules)
