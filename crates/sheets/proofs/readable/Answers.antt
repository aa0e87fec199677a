use borrow.Author.Rules.{rules}
use Rattle.sheets.proofs.Telling.{read-40, read-41, read-41-end, read_right}
use Rattle.sheets.proofs.readable.Goals as goal

pub returns-then-sheet-gt65536 : goal.returns-then-sheet-gt65536
returns-then-sheet-gt65536 c = search (read-40, rules)

pub returns-then-not-keeps : goal.returns-then-not-keeps
returns-then-not-keeps c = search (read-41, rules)

pub returns-then-not-ends : goal.returns-then-not-ends
returns-then-not-ends c = search (read-41-end, rules)

pub returns : goal.returns
returns c = search (read_right, rules)
