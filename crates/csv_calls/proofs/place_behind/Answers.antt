use Rattle.csv_calls.proofs.Sheet.{place-on, place-ends}
use borrow.Author.Rules.{rules}
use Rattle.csv_calls.proofs.place_behind.Goals as goal

pub loop-preserved : goal.loop-preserved
loop-preserved c = search (place-on, rules)

pub returns : goal.returns
returns c = search (place-ends, rules)
