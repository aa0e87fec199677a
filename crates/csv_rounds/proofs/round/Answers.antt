use borrow.Author.Rules.{rules}
use Rattle.csv_rounds.proofs.Laws.{round-starts, round-over, round-inside, round-passed, round-table, round-few, round-broken, round-place, round-less, round-on}
use Rattle.csv_rounds.proofs.round.Goals as goal

pub loop-at-init : goal.loop-at-init
loop-at-init c = search (round-starts, rules)

pub row-requires : goal.row-requires
row-requires c = search (round-inside, rules)

pub returns-in_default : goal.returns-in_default
returns-in_default c = round-broken _ _ _ _ _ _ _ _ _ _ _ c.loop-at.invariant c.loop-at-test.true c.in_default.ensures

pub overflow_add-passed : goal.overflow_add-passed
overflow_add-passed c = search (round-passed, rules)

pub with_row-met-requires : goal.with_row-met-requires
with_row-met-requires c =
    (search (round-few, rules), search (round-inside, rules), search (round-table, rules))

pub overflow_add-at : goal.overflow_add-at
overflow_add-at c = search (round-place, rules)

pub loop-at-smaller : goal.loop-at-smaller
loop-at-smaller c = search (round-less, rules)

pub loop-at-preserved : goal.loop-at-preserved
loop-at-preserved c =
    round-on _ _ _ _ _ _ _ _ _ _ _ c.loop-at.invariant c.loop-at-test.true _ _ _ _ c.in-Some.ensures c.requires.2 _ _ _ _ _ _
    c.with_row-met.ensures

pub returns : goal.returns
returns c = search (round-over, rules)
