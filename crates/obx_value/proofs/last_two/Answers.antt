use borrow.Author.Rules.{rules}
use Rattle.components.specs.Components.{Smalls}
use Rattle.components.proofs.Laws.{led-within, next-within}
use Rattle.value.proofs.Laws.{and-then}
use Rattle.obx_value.proofs.Laws.{last-is}
use Rattle.obx_value.proofs.last_two.Goals as goal

pub component-a-requires : goal.component-a-requires
unfolding Smalls
component-a-requires c = search rules

pub one-b-requires : goal.one-b-requires
unfolding Smalls
one-b-requires c = search rules

pub overflow_sub-result : goal.overflow_sub-result
overflow_sub-result c = search (next-within, rules)

pub returns : goal.returns
returns c = record { last_of = search (last-is, and-then, rules); within = search (led-within, rules) }
