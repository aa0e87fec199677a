use Rattle.std.proofs.Common.{sym, append_assoc}
use Rattle.rules.specs.Lists.{bytes}
use Rattle.in_words.specs.Line.{of_segment}
use Rattle.in_words.proofs.push_segment.Goals as goal

pub returns-then-not-comes_once-clause-is : goal.returns-then-not-comes_once-clause-is
unfolding of_segment bytes
returns-then-not-comes_once-clause-is c = rw (c.push_number.ensures.is, c.push.ensures, sym c.comes_once.ensures, c.if-not-comes_once.true, append_assoc)
