use borrow.Author.Rules.{rules}
use Rattle.csv_places.proofs.Laws.{slot_small, place-row, place-mark, look-starts, look-free, look-held, look-on, look-ends}
use Rattle.csv_places.proofs.look_up.Goals as goal

pub loop-init : goal.loop-init
loop-init c = (search (slot_small, rules), search (look-starts, rules))

pub returns-then-p-eq0 : goal.returns-then-p-eq0
returns-then-p-eq0 c = search (look-free, rules)

pub number_marked-requires : goal.number_marked-requires
number_marked-requires c = (search (place-row, rules), search (place-mark, rules), search rules)

pub returns-then-number_marked : goal.returns-then-number_marked
returns-then-number_marked c = search (look-held, rules)

pub loop-preserved : goal.loop-preserved
loop-preserved c = search (look-on, rules)

pub returns : goal.returns
returns c = search (look-ends, rules)
