use borrow.Author.Rules.{rules}
use Rattle.scan.proofs.Walk.{away-starts, away-on, away-back, away-over}
use Rattle.scan.proofs.advance.Goals as goal

pub loop-i-init : goal.loop-i-init
loop-i-init c = search (away-starts, away-on, rules)

pub returns-then-one : goal.returns-then-one
returns-then-one c = search (away-back, rules)

pub loop-i-preserved : goal.loop-i-preserved
loop-i-preserved c = search (away-on, rules)

pub returns : goal.returns
returns c = search (away-over, rules)
