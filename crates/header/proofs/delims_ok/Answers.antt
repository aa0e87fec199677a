use borrow.Author.Rules.{rules}
use Rattle.rules.specs.Lists.{bytes}
use Rattle.header.proofs.Laws.{delims-are, has_by}
use Rattle.header.proofs.delims_ok.Goals as goal

pub returns : goal.returns
unfolding bytes
returns c = search (delims-are, has_by, rules)
