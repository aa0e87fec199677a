use borrow.Author.Rules.{rules}
use Rattle.rules.proofs.Lists.{part_length}
use Rattle.closed.proofs.Laws.{charset-right, charset-wrong}
use Rattle.value.specs.Rules.{fault_no}
use Rattle.closed.proofs.charset.Goals as goal

pub slice_bounds-led-end : goal.slice_bounds-led-end
unfolding fault_no
slice_bounds-led-end c = search (part_length, rules)

pub returns-then-led : goal.returns-then-led
unfolding fault_no
returns-then-led c = search (charset-right, rules)

pub returns : goal.returns
unfolding fault_no
returns c = search (charset-wrong, rules)
