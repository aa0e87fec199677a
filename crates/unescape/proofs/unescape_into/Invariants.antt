use Rattle.unescape.proofs.Laws.{Reading}
use Rattle.unescape.proofs.unescape_into.Given as goal

abbrev pub invariant-loop-b : goal.invariant-loop-b
invariant-loop-b l = Reading l.d l.raw l.initial.buf l.buf l.at l.mode l.k l.b-index
