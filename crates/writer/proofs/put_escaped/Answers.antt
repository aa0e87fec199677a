use borrow.Author.Rules.{rules}
use Rattle.writer.proofs.Escapes.{escape-begins, simple-room, simple-few, simple-goes, byte-room, stretch-room, escape-goes, escape-ends}
use Rattle.writer.proofs.put_escaped.Goals as goal

pub loop-i-init : goal.loop-i-init
loop-i-init c = search (escape-begins, rules)

pub bounds-out-at : goal.bounds-out-at
bounds-out-at c = search (simple-room, rules)

pub overflow_add-at : goal.overflow_add-at
overflow_add-at c = search (simple-few, rules)

pub loop-i-preserved-then-simple : goal.loop-i-preserved-then-simple
loop-i-preserved-then-simple c = search (simple-goes, rules)

pub put_unit-at-requires : goal.put_unit-at-requires
put_unit-at-requires c = search (byte-room, rules)

pub put_at-at-requires : goal.put_at-at-requires
put_at-at-requires c = search (stretch-room, rules)

pub loop-i-preserved : goal.loop-i-preserved
loop-i-preserved c = search (escape-goes, rules)

pub returns : goal.returns
returns c = search (escape-ends, rules)
