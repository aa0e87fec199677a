use borrow.Author.Rules.{rules}
use Rattle.text.proofs.Laws.{text-faulty, text-empty, text-short, text-written}
use Rattle.text.proofs.text_of.Goals as goal

pub returns-then-out-n : goal.returns-then-out-n
returns-then-out-n c = search (text-short, rules)

pub returns-in-Err-Faulty : goal.returns-in-Err-Faulty
returns-in-Err-Faulty c = search (text-faulty, rules)

pub returns-in-Ok : goal.returns-in-Ok
returns-in-Ok c = search (text-empty, rules)

pub returns-else-out-n : goal.returns-else-out-n
returns-else-out-n c = search (text-written, rules)
