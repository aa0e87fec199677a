use borrow.Author.Rules.{rules}
use Rattle.writer.proofs.Weaving.{holes-go, one-hole, woven-begins, woven-ends, woven-goes, woven-room}
use Rattle.writer.proofs.put_woven.Goals as goal

pub loop-slot-init : goal.loop-slot-init
loop-slot-init c = search (woven-begins, rules)

pub put_slot-at-requires : goal.put_slot-at-requires
put_slot-at-requires c = search (woven-room, one-hole, rules)

pub loop-slot-preserved : goal.loop-slot-preserved
loop-slot-preserved c = search (woven-goes, holes-go, rules)

pub returns : goal.returns
returns c = search (woven-ends, rules)
