use Rattle.frame.proofs.Passing.{Passing}
use Rattle.frame.proofs.all_segments.pass.Given as goal

abbrev pub invariant-loop-s : goal.invariant-loop-s
invariant-loop-s l = Passing l.m l.field l.seen l.walk.rest.now
