use borrow.Author.Rules.{rules}
use Rattle.scan.proofs.Walk.{finish-starts, finish-here, finish-over, finish-on, finish-plain}
use Rattle.scan.proofs.finish.Goals as goal

pub loop-i-init : goal.loop-i-init
loop-i-init c = search (finish-starts, rules)

pub returns-then-b-d : goal.returns-then-b-d
returns-then-b-d c = search (finish-here, finish-over, rules)

pub loop-i-preserved-then-is_plain : goal.loop-i-preserved-then-is_plain
loop-i-preserved-then-is_plain c = search (finish-starts, finish-plain, finish-on, finish-here, finish-over, rules)

pub loop-i-preserved : goal.loop-i-preserved
loop-i-preserved c = search (finish-on, rules)

pub returns : goal.returns
returns c = search (finish-over, rules)
