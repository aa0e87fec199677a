use Prim.Native.Nat.{◌+◌, ◌-◌}
use lib.ListN.{length}
use Rattle.csv_runs.proofs.Laws.{Going}
use Rattle.csv_runs.proofs.run.Given as goal

abbrev pub invariant-loop-other : goal.invariant-loop-other
invariant-loop-other l = Going l.file l.at l.first.items l.size l.good l.differs

abbrev pub decreases-loop-other : goal.decreases-loop-other
decreases-loop-other l = length l.file - (l.at + l.size)
