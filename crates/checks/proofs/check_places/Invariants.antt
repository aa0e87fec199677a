use Rattle.checks.proofs.Laws.{Going}
use Rattle.checks.proofs.check_places.Given as goal

abbrev pub invariant-loop-s : goal.invariant-loop-s
invariant-loop-s l = Going l.d l.m l.order l.ordinal l.s-iterator.rest.now
