use borrow.Author.Rules.{rules}
use Rattle.sjis.proofs.Laws.{pair_inside, past-pair, past_one}
use Rattle.sjis.proofs.past_raw.Goals as goal

pub next_raw-requires : goal.next_raw-requires
next_raw-requires c = search (pair_inside, rules)

pub returns-then-pair_at : goal.returns-then-pair_at
returns-then-pair_at c = search (past-pair, rules)

pub returns : goal.returns
returns c = search (past_one, rules)
