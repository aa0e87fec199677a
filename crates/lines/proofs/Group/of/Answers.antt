use borrow.Author.Rules.{rules}
use Rattle.lines.proofs.Laws.{cut-start, cut_on, cut-place}
use Rattle.lines.proofs.Group.of.Goals as goal

pub loop-k-init : goal.loop-k-init
loop-k-init c = search (cut-start, rules)

pub next_line-requires : goal.next_line-requires
next_line-requires c = search (cut-place, rules)

pub loop-k-preserved : goal.loop-k-preserved
loop-k-preserved c = search (cut_on, rules)
