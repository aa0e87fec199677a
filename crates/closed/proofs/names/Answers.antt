use borrow.Author.Rules.{rules}
use Rattle.rules.proofs.Lists.{part_length}
use Rattle.closed.proofs.Laws.{field-free, names-are}
use Rattle.closed.proofs.names.Goals as goal

pub slice_bounds-both-end : goal.slice_bounds-both-end
slice_bounds-both-end c = search (part_length, rules)

pub both-fault-requires : goal.both-fault-requires
both-fault-requires c = search (field-free, rules)

pub returns : goal.returns
returns c = search (names-are, rules)
