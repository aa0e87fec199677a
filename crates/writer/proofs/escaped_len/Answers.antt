use borrow.Author.Rules.{rules}
use Rattle.writer.proofs.Escapes.{measure-begins, simple-measured, measure-goes, measure-ends}
use Rattle.writer.proofs.escaped_len.Goals as goal

pub loop-i-init : goal.loop-i-init
loop-i-init c = search (measure-begins, rules)

pub loop-i-preserved-then-simple : goal.loop-i-preserved-then-simple
loop-i-preserved-then-simple c = search (simple-measured, rules)

pub loop-i-preserved : goal.loop-i-preserved
loop-i-preserved c = search (measure-goes, rules)

pub returns : goal.returns
returns c = search (measure-ends, rules)
