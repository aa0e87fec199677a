use borrow.Author.Rules.{rules}
use Rattle.fields.proofs.Laws.{head-is}
use Rattle.fields.proofs.head_of.Goals as goal

pub returns : goal.returns
returns c = search (head-is, rules)
