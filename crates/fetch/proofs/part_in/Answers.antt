use borrow.Author.Rules.{rules}
use Rattle.fetch.proofs.Laws.{in_is, in_within}
use Rattle.fetch.proofs.part_in.Goals as goal

pub returns : goal.returns
returns c = search (in_is, in_within, rules)
