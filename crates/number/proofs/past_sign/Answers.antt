use borrow.Author.Rules.{rules}
use Rattle.number.proofs.Laws.{past_sign-laws}
use Rattle.number.proofs.past_sign.Goals as goal

pub returns-then-b : goal.returns-then-b
returns-then-b c = search (past_sign-laws, rules)

pub returns-in_default : goal.returns-in_default
returns-in_default c = search (past_sign-laws, rules)

pub returns-else-b : goal.returns-else-b
returns-else-b c = search (past_sign-laws, rules)
