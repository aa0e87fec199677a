use Prim.Native.Nat.{◌-◌}
use lib.ListN.{length}
use Rattle.csv_rows.specs.Rows.{items_of}
use Rattle.csv_rounds.proofs.Laws.{Rounding}
use Rattle.csv_rounds.proofs.round.Given as goal

abbrev pub invariant-loop-at : goal.invariant-loop-at
invariant-loop-at l = Rounding l.rows l.line l.places (items_of l.before) l.at l.passed l.met.unkept l.met.line l.met.differs l.met.returns l.met.count

abbrev pub decreases-loop-at : goal.decreases-loop-at
decreases-loop-at l = length l.rows - l.at
