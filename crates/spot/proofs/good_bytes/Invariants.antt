use Rattle.spot.proofs.Laws.{Good}
use Rattle.spot.proofs.good_bytes.Given as goal

abbrev pub invariant-loop-s : goal.invariant-loop-s
invariant-loop-s l = Good l.m l.field l.at l.s-iterator.rest.now
