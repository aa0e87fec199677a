use borrow.Author.Rules.{rules}
use Rattle.compose.proofs.Writing.{count-one, count-anew, count_same}
use Rattle.compose.proofs.counting.Goals as goal

pub returns-then-eq : goal.returns-then-eq
returns-then-eq c = record { value = search (count-one, rules); within = search rules }

pub returns-then-eq-2 : goal.returns-then-eq-2
returns-then-eq-2 c = record { value = search (count-anew, rules); within = search rules }

pub returns : goal.returns
returns c = record { value = search (count_same, rules); within = search rules }
