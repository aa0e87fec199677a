use borrow.Author.Rules.{rules}
use Rattle.sjis.proofs.Writing.{back-is-put, one-is-put}
use Rattle.sjis.proofs.put_one.Goals as goal

pub returns-then-two : goal.returns-then-two
returns-then-two c = search (back-is-put, rules)

pub returns : goal.returns
returns c = search (one-is-put, rules)
