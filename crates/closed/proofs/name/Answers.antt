use borrow.Author.Rules.{rules}
use Rattle.judge.specs.Judge.{Small}
use Rattle.components.specs.Components.{Smalls}
use Rattle.closed.proofs.Laws.{name-is}
use Rattle.value.proofs.Laws.{and-then}
use Rattle.closed.proofs.name.Goals as goal

pub component-family-requires : goal.component-family-requires
unfolding Small Smalls
component-family-requires c = search rules

pub component-given-requires : goal.component-given-requires
unfolding Small Smalls
component-given-requires c = search rules

pub returns : goal.returns
returns c = search (name-is, and-then, rules)
