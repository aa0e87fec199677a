use borrow.Author.Rules.{rules}
use Rattle.section.proofs.Laws.{put_back}
use Rattle.section.proofs.put.Goals as goal

pub returns : goal.returns
returns c = record { lined = search (put_back, rules); within = search rules }
