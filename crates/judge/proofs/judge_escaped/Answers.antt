use borrow.Author.Rules.{rules}
use Rattle.unescape.proofs.Laws.{got-count, got-low}
use Rattle.judge.proofs.judge_escaped.Goals as goal

pub slice_bounds-buf-end : goal.slice_bounds-buf-end
slice_bounds-buf-end c = search (got-low, rules)

pub slice_bounds-fault_of-end : goal.slice_bounds-fault_of-end
slice_bounds-fault_of-end c = search (got-count, rules)
