use borrow.Author.Rules.{rules}
use Rattle.scan.proofs.Walk.{keeps_on, keeps-not, keeps-plain, keeps_line, keeps-over}
use Rattle.scan.proofs.keeps.Goals as goal

pub loop-i-preserved-then-is_plain : goal.loop-i-preserved-then-is_plain
loop-i-preserved-then-is_plain c = search (keeps-plain, rules)

pub loop-i-preserved-then-ends_line : goal.loop-i-preserved-then-ends_line
loop-i-preserved-then-ends_line c = search (keeps_line, rules)

pub returns-then-not-n : goal.returns-then-not-n
returns-then-not-n c = search (keeps-not, rules)

pub loop-i-preserved : goal.loop-i-preserved
loop-i-preserved c = search (keeps_on, rules)

pub returns : goal.returns
returns c = search (keeps-over, rules)
