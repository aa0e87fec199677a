use borrow.Author.Rules.{rules}
use Rattle.sjis.proofs.Writing.{end-is-put, end_none}
use Rattle.sjis.proofs.put_end.Goals as goal

pub returns-then-two : goal.returns-then-two
returns-then-two c = search (end-is-put, rules)

pub returns : goal.returns
returns c = search (end_none, rules)
