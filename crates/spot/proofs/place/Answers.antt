use borrow.Author.Rules.{rules}
use Rattle.rules.proofs.Lists.{part_length}
use Rattle.spot.proofs.Laws.{ends-few, place_is}
use Rattle.spot.proofs.place.Goals as goal

pub slice_bounds-line_ends-end : goal.slice_bounds-line_ends-end
slice_bounds-line_ends-end c = search (part_length, rules)

pub overflow_add-result : goal.overflow_add-result
overflow_add-result c = search (ends-few, rules)

pub returns : goal.returns
returns c = search (place_is, rules)
