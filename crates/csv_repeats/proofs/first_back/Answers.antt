use borrow.Author.Rules.{rules}
use Rattle.csv_repeats.proofs.Laws.{back-first, back-kept}
use Rattle.csv_repeats.proofs.first_back.Goals as goal

pub returns-then-returns-comes_back : goal.returns-then-returns-comes_back
returns-then-returns-comes_back c = search (back-first, rules)

pub returns : goal.returns
returns c = search (back-kept, rules)
