use borrow.Author.Rules.{rules}
use Rattle.sjis.proofs.Writing.{pair-is-put, into-is-put}
use Rattle.sjis.proofs.put_pair.Goals as goal

pub returns-then-two : goal.returns-then-two
returns-then-two c = search (pair-is-put, rules)

pub returns : goal.returns
returns c = search (into-is-put, rules)
