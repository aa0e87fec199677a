use Rattle.lines.proofs.Laws.{past-none, past-some, past-within, behind-none, behind-some}
use borrow.Author.Rules.{rules}
use Rattle.lines.proofs.next_line.Goals as goal

pub returns-then-n-rest : goal.returns-then-n-rest
returns-then-n-rest c = record { value = search (behind-none, rules); rest = search (past-none, rules); within = search rules }

pub returns : goal.returns
returns c = record { value = search (behind-some, rules); rest = search (past-some, rules); within = search (past-within, rules) }
