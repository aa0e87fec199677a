use Rattle.to_sheet.proofs.Laws.{write-short, write-whole}
use borrow.Author.Rules.{rules}
use Rattle.to_sheet.proofs.write.Goals as goal

pub returns-then-out-n : goal.returns-then-out-n
returns-then-out-n c = search (write-short, rules)

pub returns : goal.returns
returns c = search (write-whole, rules)
