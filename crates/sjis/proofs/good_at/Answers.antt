use borrow.Author.Rules.{rules}
use Rattle.sjis.proofs.Laws.{pair_inside, good-pair, good-one}
use Rattle.sjis.proofs.good_at.Goals as goal

pub bounds-raw-i : goal.bounds-raw-i
bounds-raw-i c = search (pair_inside, rules)

pub returns-then-pair_at : goal.returns-then-pair_at
returns-then-pair_at c = search (good-pair, rules)

pub returns : goal.returns
returns c = search (good-one, rules)
