use Prim.Native.Nat.{◌+◌, ◌-◌}
use lib.ListN.{length}
use Rattle.csv_runs.proofs.Sheet.{Putting}
use Rattle.csv_runs.proofs.put_sheet.Given as goal

abbrev pub invariant-loop-next : goal.invariant-loop-next
invariant-loop-next l = Putting l.file l.at l.first.items l.initial.good l.initial.lines l.lines l.size l.good l.differs l.before

abbrev pub decreases-loop-next : goal.decreases-loop-next
decreases-loop-next l = length l.file - (l.at + l.size)
