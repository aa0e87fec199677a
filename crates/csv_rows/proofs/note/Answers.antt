use borrow.Author.Rules.{rules}
use Rattle.csv_rows.proofs.Laws.{note-in, note-out}
use Rattle.csv_rows.proofs.note.Goals as goal

pub returns-then-n-lt45 : goal.returns-then-n-lt45
returns-then-n-lt45 c = search (note-in, rules)

pub returns-else-n-lt45 : goal.returns-else-n-lt45
returns-else-n-lt45 c = search (note-out, rules)
