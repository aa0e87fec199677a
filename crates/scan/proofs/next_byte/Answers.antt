use borrow.Author.Rules.{rules}
use Rattle.scan.proofs.Walk.{next_plain}
use Rattle.scan.proofs.next_byte.Goals as goal

pub returns-then-is_plain : goal.returns-then-is_plain
returns-then-is_plain c = search (next_plain, rules)
