use borrow.Author.Rules.{rules}
use Rattle.spot.proofs.Laws.{kept-ends, kept_goes, kept-stops}
use Rattle.spot.proofs.kept_bytes.Goals as goal

pub returns-then-is_bad : goal.returns-then-is_bad
returns-then-is_bad c = search (kept-stops, rules)

pub loop-i-preserved : goal.loop-i-preserved
loop-i-preserved c = search (kept_goes, rules)

pub returns : goal.returns
returns c = search (kept-ends, rules)
