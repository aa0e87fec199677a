use borrow.Author.Rules.{rules}
use Rattle.fetch.proofs.Laws.{fetch-given}
use Rattle.fetch.proofs.fetch.Goals as goal

pub returns : goal.returns
returns c = search (fetch-given, rules)
