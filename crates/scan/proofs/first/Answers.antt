use borrow.Author.Rules.{rules}
use Rattle.scan.proofs.Walk.{first-starts, first-here, first-over, first_on, first_plain, first-simple}
use Rattle.scan.proofs.first.Goals as goal

pub loop-i-init : goal.loop-i-init
loop-i-init c = search (first-starts, rules)

pub loop-i-preserved-then-simple : goal.loop-i-preserved-then-simple
loop-i-preserved-then-simple c = search (first-starts, first-simple, first-here, first_plain, first_on, first-over, rules)

pub returns-then-ending : goal.returns-then-ending
returns-then-ending c = search (first-here, first-over, rules)

pub loop-i-preserved-then-is_plain : goal.loop-i-preserved-then-is_plain
loop-i-preserved-then-is_plain c = search (first-starts, first-simple, first-here, first_plain, first_on, first-over, rules)

pub loop-i-preserved : goal.loop-i-preserved
loop-i-preserved c = search (first_on, rules)

pub returns : goal.returns
returns c = search (first-over, rules)
