use Prim.Native.Nat.{◌+◌, ◌-◌}
use lib.ListN.{length}
use Rattle.csv_rows.specs.Rows.{raw_of}
use Rattle.csv_rows.proofs.Laws.{Reading}
use Rattle.csv_rows.proofs.row.Given as goal

abbrev pub invariant-items : goal.invariant-items
invariant-items l = Reading l.file l.at l.known (raw_of l.raw) l.size l.count l.good

abbrev pub decreases-items : goal.decreases-items
decreases-items l = length l.file - (l.at + l.size)
