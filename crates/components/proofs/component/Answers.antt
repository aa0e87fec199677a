use borrow.Author.Rules.{rules}
use Rattle.rules.proofs.Lists.{part_length}
use Rattle.components.proofs.Laws.{component-judged, head-clean}
use Rattle.components.proofs.component.Goals as goal

pub slice_bounds-judge_place-end : goal.slice_bounds-judge_place-end
slice_bounds-judge_place-end c = search (part_length, rules)

pub judge_place-fault-requires : goal.judge_place-fault-requires
judge_place-fault-requires c = search (head-clean, rules)

pub returns : goal.returns
returns c = search (component-judged, rules)
