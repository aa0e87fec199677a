use Rattle.csv_calls.proofs.Sheet.{behind-none, behind-broken, behind-run}
use borrow.Author.Rules.{rules}
use Rattle.csv_calls.proofs.place_after.Goals as goal

pub returns-then-file-at : goal.returns-then-file-at
returns-then-file-at c = search (behind-none, rules)

pub returns-in-Some : goal.returns-in-Some
returns-in-Some c = behind-run _ _ c.in-Some.ensures

pub returns-in-None : goal.returns-in-None
returns-in-None c = behind-broken _ _ c.in-None.ensures
