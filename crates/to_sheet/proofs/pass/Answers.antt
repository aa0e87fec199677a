use borrow.Author.Rules.{rules}
use Rattle.to_sheet.proofs.Laws.{begins, ends, few-written, goes, small}
use Rattle.to_sheet.proofs.pass.Goals as goal

pub loop-s-init : goal.loop-s-init
loop-s-init c = rw c.into_iter-s-iterator.ensures.into_iter_gives (begins _ _ _ c.requires)

pub put-written-requires : goal.put-written-requires
put-written-requires c = search (small, few-written, c.in-Some.ensures.steps.1, rules)

pub loop-s-preserved : goal.loop-s-preserved
loop-s-preserved c = goes _ _ _ _ _ _ c.loop-s.invariant _ _ c.in-Some.ensures.steps.1 _ _ c.put-written.ensures.lined c.put-written.ensures.within

pub returns : goal.returns
returns c = ends _ _ _ _ _ _ c.loop-s.invariant _ c.in-None.ensures.steps.1
