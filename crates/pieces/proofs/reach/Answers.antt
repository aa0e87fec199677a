use borrow.Author.Rules.{rules}
use Rattle.pieces.proofs.Laws.{reach-last, reach-there, walked_next, walked-starts}
use Rattle.pieces.proofs.reach.Goals as goal

pub loop-p-init : goal.loop-p-init
loop-p-init c = search (walked-starts, rules)

pub returns-then-end-s : goal.returns-then-end-s
returns-then-end-s c = search (reach-last, rules)

pub loop-p-preserved : goal.loop-p-preserved
loop-p-preserved c = search (walked_next, rules)

pub returns : goal.returns
returns c = search (reach-there, rules)
