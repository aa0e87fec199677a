use borrow.Author.Rules.{rules}
use Rattle.components.specs.Components.{Smalls}
use Rattle.components.proofs.Laws.{led-within, next-within}
use Rattle.value.proofs.Laws.{and-then}
use Rattle.obx_value.proofs.Laws.{number_is_lem}
use Rattle.obx_value.proofs.last_three.Goals as goal

pub component-a-requires : goal.component-a-requires
unfolding Smalls
component-a-requires c = search rules

pub overflow_sub-result : goal.overflow_sub-result
overflow_sub-result c = search (next-within, rules)

pub returns : goal.returns
returns c = record { number_of = search (number_is_lem, and-then, rules); within = search (led-within, rules) }
