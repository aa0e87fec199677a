use borrow.Author.Rules.{rules}
use Rattle.fill.proofs.Laws.{put_fills}
use Rattle.fill.proofs.put.Goals as goal

pub returns : goal.returns
returns c = search (put_fills, rules)
