use lib.ListN.{length}
use Rattle.sheets.proofs.Judging.{Judging}
use Rattle.sheets.proofs.read_groups.Given as goal

abbrev pub invariant-loop-rest : goal.invariant-loop-rest
invariant-loop-rest l = Judging l.sheet l.reached l.rest l.line

abbrev pub decreases-loop-rest : goal.decreases-loop-rest
decreases-loop-rest l = length l.rest
