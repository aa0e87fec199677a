use borrow.Author.Rules.{rules}
use Rattle.rules.specs.Lists.{bytes}
use Rattle.header.proofs.Laws.{header_is, header-short}
use Rattle.header.proofs.is_header.Goals as goal

pub returns-then-m-lt9 : goal.returns-then-m-lt9
unfolding bytes
returns-then-m-lt9 c = search (header-short, rules)

pub returns : goal.returns
unfolding bytes
returns c = search (header_is, rules)
