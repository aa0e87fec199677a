use borrow.Author.Rules.{rules}
use Rattle.rules.proofs.Lists.{rest-within}
use Rattle.components.proofs.Laws.{one-read}
use Rattle.components.proofs.one.Goals as goal

pub returns : goal.returns
returns c = search (one-read, rest-within, rules)
