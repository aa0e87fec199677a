use borrow.Author.Rules.{rules}
use Rattle.reach.proofs.Laws.{put_adds}
use Rattle.reach.proofs.put.Goals as goal

pub returns : goal.returns
returns c = search (put_adds, rules)
