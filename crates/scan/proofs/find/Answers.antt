use borrow.Author.Rules.{rules}
use Rattle.scan.proofs.Walk.{find-on, find-plain, find-here, find-over}
use Rattle.scan.proofs.find.Goals as goal

pub loop-i-init : goal.loop-i-init
loop-i-init c = search (find-plain, find-on, find-here, find-over, rules)

pub returns-then-b-sep : goal.returns-then-b-sep
returns-then-b-sep c = search (find-here, find-over, rules)

pub loop-i-preserved-then-is_plain : goal.loop-i-preserved-then-is_plain
loop-i-preserved-then-is_plain c = search (find-plain, find-on, find-here, find-over, rules)

pub loop-i-preserved : goal.loop-i-preserved
loop-i-preserved c = search (find-on, rules)

pub returns : goal.returns
returns c = search (find-over, rules)
