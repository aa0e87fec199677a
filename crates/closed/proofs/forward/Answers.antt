use borrow.Author.Rules.{rules}
use Rattle.components.specs.Components.{forward}
use Rattle.closed.proofs.Laws.{step-on, all-steps}
use Rattle.closed.proofs.forward.Goals as goal

pub loop-i-init : goal.loop-i-init
unfolding forward
loop-i-init c = search rules

pub loop-i-preserved : goal.loop-i-preserved
loop-i-preserved c = search (step-on, rules)

pub returns : goal.returns
returns c = search (all-steps, rules)
