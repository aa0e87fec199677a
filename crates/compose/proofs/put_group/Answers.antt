use borrow.Author.Rules.{rules}
use Rattle.compose.proofs.Writing.{one-put, order-put}
use Rattle.compose.proofs.put_group.Goals as goal

pub returns-then-not-is : goal.returns-then-not-is
returns-then-not-is c = record { fit_at = search (one-put, rules); within = search rules }

pub returns : goal.returns
returns c = record { fit_at = search (order-put, rules); within = search rules }
