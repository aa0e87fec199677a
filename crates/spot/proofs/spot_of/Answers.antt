use borrow.Author.Rules.{rules}
use Rattle.spot.proofs.Laws.{spot-12, spot-13, spot-41, spot-far, spot-none}
use Rattle.spot.proofs.spot_of.Goals as goal

pub returns-then-text-gt65536 : goal.returns-then-text-gt65536
returns-then-text-gt65536 c = search (spot-far, rules)

pub returns-in-12 : goal.returns-in-12
returns-in-12 c = search (spot-12, rules)

pub returns-in-13 : goal.returns-in-13
returns-in-13 c = search (spot-13, rules)

pub returns-in-41 : goal.returns-in-41
returns-in-41 c = search (spot-41, rules)

pub returns-in_default : goal.returns-in_default
returns-in_default c = search (spot-none, rules)
