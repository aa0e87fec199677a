use borrow.Author.Rules.{rules}
use Rattle.lines.proofs.Laws.{line-starts, line-room, line-missing, line-ended, line-ends, line-between, part-short}
use Rattle.lines.proofs.Group.line_at.Goals as goal

pub slice_bounds-result-end : goal.slice_bounds-result-end
slice_bounds-result-end c = search (line-starts, rules)

pub returns-then-end-start : goal.returns-then-end-start
returns-then-end-start c = record { value = search (line-missing, rules); within = search (part-short, rules) }

pub overflow_sub-result : goal.overflow_sub-result
overflow_sub-result c = search (line-ended, rules)

pub slice_bounds-result-count-2 : goal.slice_bounds-result-count-2
slice_bounds-result-count-2 c = search (line-ends, rules)

pub slice_bounds-result-start-2 : goal.slice_bounds-result-start-2
slice_bounds-result-start-2 c = search (line-ends, rules)

pub slice_bounds-result-end-2 : goal.slice_bounds-result-end-2
slice_bounds-result-end-2 c = search (line-room, rules)

pub returns : goal.returns
returns c = record { value = search (line-between, rules); within = search (part-short, rules) }
