use Prim.Native.Nat.{◌-◌}
use lib.ListN.{length}
use Rattle.csv_rows.specs.Rows.{items_of}
use Rattle.csv_check.proofs.Lines.{Walking}
use Rattle.csv_check.proofs.Repeating.{Repeating}
use Rattle.csv_check.proofs.walked.Given as goal

abbrev pub invariant-loop-at : goal.invariant-loop-at
invariant-loop-at l = Walking l.file l.number l.at l.lines l.miscounted l.unconverted l.first × Repeating l.file l.places (items_of l.before) l.at l.lines l.unconverted l.first l.repeats.unkept l.repeats.line l.repeats.differs l.repeats.returns l.repeats.count

abbrev pub decreases-loop-at : goal.decreases-loop-at
decreases-loop-at l = length l.file - l.at
