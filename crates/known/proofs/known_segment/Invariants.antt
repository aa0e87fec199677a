use Rattle.known.proofs.Laws.{Seeking}
use Rattle.known.proofs.known_segment.Given as goal

abbrev pub invariant-loop-s : goal.invariant-loop-s
invariant-loop-s l = Seeking l.m l.ordinal l.left l.at l.s-iterator.rest.now
