use Rattle.std.proofs.Common.{rules}
use Rattle.frame.proofs.Taken.{none-left, none-taken, one-left, one-taken, fewer-left}
use Rattle.frame.proofs.segments.SegmentsIterator.next.Goals as goal

pub returns-then-n-rest-clause-steps : goal.returns-then-n-rest-clause-steps
returns-then-n-rest-clause-steps c = search (none-left, none-taken, rules)

pub returns-clause-steps : goal.returns-clause-steps
returns-clause-steps c = search (one-left, one-taken, rules)

pub returns-clause-goes : goal.returns-clause-goes
returns-clause-goes c = record { on = λ _. search (fewer-left, rules); keeps = search rules; rests = λ _. tt }
