use borrow.Author.Rules.{rules}
use Rattle.number.proofs.Laws.{read_is}
use Rattle.number.proofs.read_byte.Goals as goal

pub returns : goal.returns
returns c = search (read_is, rules)
