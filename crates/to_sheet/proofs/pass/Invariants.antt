use Rattle.to_sheet.proofs.Laws.{Passing}
use Rattle.to_sheet.proofs.pass.Given as goal

abbrev pub invariant-loop-s : goal.invariant-loop-s
invariant-loop-s l = Passing l.d l.m l.initial.out l.written l.out l.s-iterator.rest.now
