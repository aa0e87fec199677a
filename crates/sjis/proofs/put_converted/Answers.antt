use borrow.Author.Rules.{rules}
use Rattle.sjis.proofs.Writing.{text-starts, clear-on, text-on, text-ends}
use Rattle.sjis.proofs.put_converted.Goals as goal

pub loop-i-init : goal.loop-i-init
loop-i-init c = search (text-starts, rules)

pub loop-i-preserved-then-two-clear : goal.loop-i-preserved-then-two-clear
loop-i-preserved-then-two-clear c = (search rules, search (clear-on, rules))

pub loop-i-preserved : goal.loop-i-preserved
loop-i-preserved c = (search rules, search (text-on, rules))

pub returns : goal.returns
returns c = search (text-ends, rules)
