use borrow.Author.Rules.{rules}
use Rattle.scan.proofs.Walk.{units-none, units-on, units-done}
use Rattle.scan.proofs.units.Goals as goal

pub returns-then-ne : goal.returns-then-ne
returns-then-ne c = search (units-none, units-done, rules)

pub loop-i-init : goal.loop-i-init
loop-i-init c = search (units-none, units-done, rules)

pub returns-then-not-unit : goal.returns-then-not-unit
returns-then-not-unit c = search (units-done, rules)

pub loop-i-preserved : goal.loop-i-preserved
loop-i-preserved c = search (units-on, units-done, rules)

pub returns : goal.returns
returns c = search (units-done, rules)
