use borrow.Author.Rules.{rules}
use Rattle.fetch.proofs.Laws.{component-is, component-within}
use Rattle.fetch.proofs.component_of.Goals as goal

pub returns : goal.returns
returns c = search (component-is, component-within, rules)
