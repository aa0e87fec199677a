use borrow.Author.Rules.{rules}
use Rattle.rules.proofs.Lists.{part_length}
use Rattle.closed.proofs.Laws.{marked-is}
use Rattle.closed.proofs.marked.Goals as goal

pub slice_bounds-led-end : goal.slice_bounds-led-end
slice_bounds-led-end c = search (part_length, rules)

pub returns : goal.returns
returns c = search (marked-is, rules)
