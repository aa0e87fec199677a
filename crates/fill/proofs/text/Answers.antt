use borrow.Author.Rules.{rules}
use Rattle.rules.proofs.Lists.{part_length}
use Rattle.unescape.proofs.Laws.{got-low}
use Rattle.fill.proofs.Laws.{value-clean, value-got, got-short, value-none}
use Rattle.fill.proofs.text.Goals as goal

pub returns-then-c-raw : goal.returns-then-c-raw
returns-then-c-raw c = record { filled = search (value-clean, rules); within = search rules }

pub slice_bounds-buf-end : goal.slice_bounds-buf-end
slice_bounds-buf-end c = search (got-low, rules)

pub slice_bounds-put-end : goal.slice_bounds-put-end
slice_bounds-put-end c = search (got-low, part_length, rules)

pub returns-in-Ok : goal.returns-in-Ok
returns-in-Ok c = record { filled = search (value-got, rules); within = search (got-short, rules) }

pub returns-in-Err : goal.returns-in-Err
returns-in-Err c = record { filled = search (value-none, rules); within = search rules }
