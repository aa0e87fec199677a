use borrow.Author.Rules.{rules}
use Rattle.csv_rounds.proofs.Laws.{behind-none, behind-some}
use Rattle.csv_rounds.proofs.place_behind.Goals as goal

pub returns-then-at-eq0 : goal.returns-then-at-eq0
returns-then-at-eq0 c = search (behind-none, rules)

pub returns : goal.returns
returns c = search (behind-some, rules)
