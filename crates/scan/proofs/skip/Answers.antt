use borrow.Author.Rules.{rules}
use Rattle.rules.proofs.Lists.{rest-within}
use Rattle.scan.proofs.Walk.{skip-on, skip-end}
use Rattle.scan.proofs.skip.Goals as goal

pub loop-preserved : goal.loop-preserved
loop-preserved c = search (skip-on, rest-within, rules)

pub returns : goal.returns
returns c = search (skip-end, rules)
