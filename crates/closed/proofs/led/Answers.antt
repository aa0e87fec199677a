use borrow.Author.Rules.{rules}
use Rattle.closed.proofs.Laws.{led-none, led-some}
use Rattle.closed.proofs.led.Goals as goal

pub returns-then-is_empty : goal.returns-then-is_empty
returns-then-is_empty c = search (led-none, rules)

pub returns : goal.returns
returns c = search (led-some, rules)
