use borrow.Author.Rules.{rules}
use Rattle.openings.proofs.Opening.{past-order, past-other}
use Rattle.openings.proofs.past_group.Goals as goal

pub returns-then-eq : goal.returns-then-eq
returns-then-eq c = search (past-order, rules)

pub returns : goal.returns
returns c = search (past-other, rules)
