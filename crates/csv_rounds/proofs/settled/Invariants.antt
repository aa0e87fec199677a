use Rattle.csv_rounds.proofs.Laws.{Settling, distance}
use Rattle.csv_rounds.proofs.settled.Given as goal

abbrev pub invariant-loop-unkept : goal.invariant-loop-unkept
invariant-loop-unkept l = Settling l.file l.initial.differs l.initial.returns l.initial.unkept l.initial.line l.differs l.returns l.unkept l.line

abbrev pub decreases-loop-unkept : goal.decreases-loop-unkept
decreases-loop-unkept l = distance l.file l.unkept
