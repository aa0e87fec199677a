use borrow.Author.Rules.{rules}
use Rattle.rules.proofs.Lists.{rest-within}
use Rattle.fields.proofs.Laws.{past-none, past-on, past_end}
use Rattle.fields.proofs.start_of.Goals as goal

pub overflow_add-at : goal.overflow_add-at
overflow_add-at c = search (rest-within, rules)

pub loop-i-init : goal.loop-i-init
loop-i-init c = search (past-none, rules)

pub loop-i-preserved : goal.loop-i-preserved
loop-i-preserved c = search (past-on, rest-within, rules)

pub returns : goal.returns
returns c = search (past_end, rules)
