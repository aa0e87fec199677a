use Rattle.csv_check.proofs.Count.{Counting}
use Rattle.csv_check.proofs.column_count.Given as goal

abbrev pub invariant-loop-b : goal.invariant-loop-b
invariant-loop-b l = Counting l.raw l.b-index l.number
