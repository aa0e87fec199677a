use borrow.Author.Rules.{rules}
use Rattle.obx_value.proofs.Laws.{parts-small, value-is}
use Rattle.obx_value.proofs.value.Goals as goal

pub numbers-requires : goal.numbers-requires
numbers-requires c = search (parts-small, rules)

pub returns-then-equal : goal.returns-then-equal
returns-then-equal c = record { value_of = search (value-is, rules); within = search rules }

pub single-requires : goal.single-requires
single-requires c = search (parts-small, rules)

pub returns : goal.returns
returns c = record { value_of = search (value-is, rules); within = search rules }
