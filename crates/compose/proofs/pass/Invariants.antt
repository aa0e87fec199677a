use lib.ListN.{length}
use Rattle.compose.proofs.Passing.{Passing}
use Rattle.compose.proofs.pass.Given as goal

abbrev pub invariant-loop-rest : goal.invariant-loop-rest
invariant-loop-rest l = Passing l.d l.sheet l.known l.initial.out l.reached l.rest l.line l.bytes l.segments l.numbers l.out

abbrev pub decreases-loop-rest : goal.decreases-loop-rest
decreases-loop-rest l = length l.rest
