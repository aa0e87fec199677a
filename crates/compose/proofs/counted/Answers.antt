use borrow.Author.Rules.{rules}
use Rattle.compose.proofs.Writing.{counted_is}
use Rattle.compose.proofs.counted.Goals as goal

pub returns : goal.returns
returns c = record { result_value = search (counted_is, rules); within = search rules }
