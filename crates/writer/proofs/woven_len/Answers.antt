use borrow.Author.Rules.{rules}
use Rattle.writer.proofs.Weaving.{holes-go, one-hole, sum-ends, sum-few, sum_goes}
use Rattle.writer.proofs.woven_len.Goals as goal

pub slot_len-n-requires : goal.slot_len-n-requires
slot_len-n-requires c = search (one-hole, rules)

pub overflow_add-n : goal.overflow_add-n
overflow_add-n c = search (sum-few, rules)

pub loop-slot-preserved : goal.loop-slot-preserved
loop-slot-preserved c = search (sum_goes, holes-go, rules)

pub returns : goal.returns
returns c = search (sum-ends, rules)
