use borrow.Author.Rules.{rules}
use Prim.Native.Nat.{◌-◌}
use Rattle.rules.proofs.Lists.{rest-within}
use Rattle.closed.proofs.Laws.{looking-ends, looking-finds, looking-on, looking-starts, past-less, rest-fits}
use Rattle.closed.proofs.repetition.Goals as goal

pub loop-at-init : goal.loop-at-init
loop-at-init c = search (looking-starts, rules)

pub returns-then-marked : goal.returns-then-marked
returns-then-marked c = search (looking-finds, rest-fits, rules)

pub overflow_add-at : goal.overflow_add-at
overflow_add-at c = search (rest-within, rules)

pub loop-at-smaller : goal.loop-at-smaller
loop-at-smaller c = search (past-less, rules)

pub loop-at-preserved : goal.loop-at-preserved
loop-at-preserved c = search (looking-on, rest-within, rules)

pub returns : goal.returns
returns c = search (looking-ends, rest-fits, rules)
