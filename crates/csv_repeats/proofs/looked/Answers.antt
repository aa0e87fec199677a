use borrow.Author.Rules.{rules}
use Rattle.csv_places.proofs.Laws.{slot-inside}
use Rattle.csv_repeats.proofs.Laws.{held-there, looked-kept, looked-left}
use Rattle.csv_repeats.proofs.looked.Goals as goal

pub looked_for-standing-requires : goal.looked_for-standing-requires
looked_for-standing-requires c = search (held-there, rules)

pub keep-kept-requires : goal.keep-kept-requires
keep-kept-requires c = search (slot-inside, rules)

pub returns-then-unkept-eq0 : goal.returns-then-unkept-eq0
returns-then-unkept-eq0 c = search (looked-kept, rules)

pub returns : goal.returns
returns c = search (looked-left, rules)
