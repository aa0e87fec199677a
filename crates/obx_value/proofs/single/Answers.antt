use borrow.Author.Rules.{rules}
use Rattle.components.specs.Components.{Smalls}
use Rattle.value.proofs.Laws.{and-then}
use Rattle.obx_value.proofs.Laws.{single-is}
use Rattle.obx_value.proofs.single.Goals as goal

pub one-c-requires : goal.one-c-requires
unfolding Smalls
one-c-requires c = search rules

pub returns : goal.returns
returns c = record { by_index = search (single-is, and-then, rules); within = search rules }
