use borrow.Author.Rules.{rules}
use Rattle.sjis.proofs.Laws.{good-starts, clear-on, good-bad, good-on, good-ends}
use Rattle.sjis.proofs.convertible.Goals as goal

pub loop-i-init : goal.loop-i-init
loop-i-init c = search (good-starts, rules)

pub loop-i-preserved-then-clear : goal.loop-i-preserved-then-clear
loop-i-preserved-then-clear c = search (clear-on, rules)

pub returns-then-not-good_at : goal.returns-then-not-good_at
returns-then-not-good_at c = search (good-bad, rules)

pub loop-i-preserved : goal.loop-i-preserved
loop-i-preserved c = search (good-on, rules)

pub returns : goal.returns
returns c = search (good-ends, rules)
