use borrow.Author.Rules.{rules}
use Rattle.frame.proofs.Laws.{within-bad}
use Rattle.frame.proofs.Passing.{pass-bad, pass-end, pass_on, pass-open, pass-starts, passed-within}
use Rattle.frame.proofs.all_segments.pass.Goals as goal

pub loop-s-init : goal.loop-s-init
loop-s-init c = search (pass-starts, rules)

pub returns-then-not-good-clause-value : goal.returns-then-not-good-clause-value
returns-then-not-good-clause-value c = search (pass-bad, rules)

pub returns-then-not-good-clause-within : goal.returns-then-not-good-clause-within
returns-then-not-good-clause-within c = search (within-bad, rules)

pub loop-s-preserved : goal.loop-s-preserved
loop-s-preserved c =
    pass_on _ _ _ _ c.loop-s.invariant _ _ c.in-Some.ensures.steps.1 _ c.good.ensures _ _ c.if-not-good.false c.name_of.ensures c.counted-seen.ensures

pub returns-then-not-is_empty-clause-value : goal.returns-then-not-is_empty-clause-value
returns-then-not-is_empty-clause-value c = search (pass-open, rules)

pub returns-clause-value : goal.returns-clause-value
returns-clause-value c = search (pass-end, rules)

pub returns-clause-within : goal.returns-clause-within
returns-clause-within c = search (passed-within, rules)
