use borrow.Author.Rules.{rules}
use Rattle.spot.proofs.Laws.{good-starts, good-inside, good-ends, good-fits, good-stops, good-goes}
use Rattle.spot.proofs.good_bytes.Goals as goal

pub loop-s-init : goal.loop-s-init
loop-s-init c = rw c.into_iter-s-iterator.ensures.into_iter_gives (good-starts _ _)

pub returns-then-not-good-clause-value : goal.returns-then-not-good-clause-value
returns-then-not-good-clause-value c = good-stops _ _ _ _ c.loop-s.invariant _ _ c.in-Some.ensures.steps.1 _ c.good.ensures c.if-not-good.true

pub returns-then-not-good-clause-within : goal.returns-then-not-good-clause-within
returns-then-not-good-clause-within c = search (good-inside, rules)

pub overflow_add-at : goal.overflow_add-at
overflow_add-at c = search (good-fits, rules)

pub loop-s-preserved : goal.loop-s-preserved
loop-s-preserved c = good-goes _ _ _ _ c.loop-s.invariant _ _ c.in-Some.ensures.steps.1 _ c.good.ensures c.if-not-good.false

pub returns : goal.returns
returns c = record { value = good-ends _ _ _ _ c.loop-s.invariant _ c.in-None.ensures.steps.1; within = search (good-inside, rules) }
