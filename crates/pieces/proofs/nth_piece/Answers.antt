use borrow.Author.Rules.{rules}
use Rattle.pieces.proofs.Laws.{nth-absent, nth-there}
use Rattle.pieces.proofs.nth_piece.Goals as goal

pub returns-then-p-n : goal.returns-then-p-n
returns-then-p-n c = search (nth-absent, rules)

pub returns : goal.returns
returns c = search (nth-there, rules)
