use borrow.Author.Rules.{rules}
use Rattle.rules.proofs.Lists.{rest-is}
use Rattle.csv_rounds.proofs.Laws.{settle-starts, settle-ends, settle-start, settle-line, settle-room, settle-converts, settle-inside, settle-on, settle-less}
use Rattle.csv_rounds.proofs.settled.Goals as goal

pub loop-unkept-init : goal.loop-unkept-init
loop-unkept-init c = search (settle-starts, rules)

pub slice_bounds-round-count : goal.slice_bounds-round-count
slice_bounds-round-count c = search (settle-start, rules)

pub slice_bounds-round-start : goal.slice_bounds-round-start
slice_bounds-round-start c = search (settle-start, rules)

pub round-met-requires : goal.round-met-requires
round-met-requires c = (search (settle-line, rules), search (settle-room, rest-is, rules), search (settle-converts, rest-is, rules))

pub place_behind-unkept-requires : goal.place_behind-unkept-requires
place_behind-unkept-requires c = search (settle-inside, rest-is, rules)

pub loop-unkept-smaller : goal.loop-unkept-smaller
loop-unkept-smaller c = search (settle-less, rest-is, rules)

pub loop-unkept-preserved : goal.loop-unkept-preserved
loop-unkept-preserved c = search (settle-on, rest-is, rules)

pub returns : goal.returns
returns c = search (settle-ends, rules)
