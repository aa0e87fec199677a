use borrow.Author.Rules.{rules}
use mathlib.Core.Bool.{true, false}
use mathlib.Core.Path.{refl}
use Rattle.checks.proofs.Laws.{ends, ordinal-fits, passes, refuses, skipped, starts}
use Rattle.checks.proofs.check_places.Goals as goal

pub loop-s-init : goal.loop-s-init
loop-s-init c = rw c.into_iter-s-iterator.ensures.into_iter_gives (starts _ _)

pub loop-s-preserved-then-eq : goal.loop-s-preserved-then-eq
loop-s-preserved-then-eq c = skipped _ _ _ _ _ c.loop-s.invariant _ _ c.in-Some.ensures.steps.1 _ c.name_of-name.ensures true (search rules) refl

pub returns-in-Err : goal.returns-in-Err
returns-in-Err c =
    refuses _ _ _ _ _ c.loop-s.invariant _ _ c.in-Some.ensures.steps.1 _ c.name_of-name.ensures false (search rules) refl _ c.requires c.in-Err.ensures.found_in

pub loop-s-preserved : goal.loop-s-preserved
loop-s-preserved c =
    passes _ _ _ _ _ c.loop-s.invariant _ _ c.in-Some.ensures.steps.1 _ c.name_of-name.ensures false (search rules) refl _ _ c.in-Ok.ensures.found_in c.in-Ok.ensures.order

pub returns : goal.returns
returns c = ends _ _ _ _ _ c.loop-s.invariant _ c.requires c.in-None.ensures.steps.1
