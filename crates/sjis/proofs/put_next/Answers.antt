use borrow.Author.Rules.{rules}
use Rattle.sjis.proofs.Laws.{pair_inside}
use Rattle.sjis.proofs.Writing.{next-pair, next_one}
use Rattle.sjis.proofs.put_next.Goals as goal

pub bounds-raw-i-then-pair_at : goal.bounds-raw-i-then-pair_at
bounds-raw-i-then-pair_at c = search (pair_inside, rules)

pub returns-then-pair_at : goal.returns-then-pair_at
returns-then-pair_at c = search (next-pair, rules)

pub returns : goal.returns
returns c = search (next_one, rules)
