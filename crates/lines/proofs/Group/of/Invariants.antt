use Rattle.lines.specs.Lines.{Cut}
use Rattle.lines.proofs.Group.of.Given as goal

abbrev pub invariant-loop-k : goal.invariant-loop-k
invariant-loop-k l = Cut l.k l.text l.places
