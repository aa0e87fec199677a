use borrow.Author.Rules.{rules}
use Rattle.lines.proofs.Laws.{line-key, line-good, line-bad}
use Rattle.lines.proofs.judged.Goals as goal

pub returns-in_err-v : goal.returns-in_err-v
returns-in_err-v c = search (line-key, rules)

pub returns-then-good-eq : goal.returns-then-good-eq
returns-then-good-eq c = search (line-bad, rules)

pub returns : goal.returns
returns c = search (line-good, rules)
