use borrow.Author.Rules.{rules}
use Rattle.csv_places.proofs.Laws.{hash-starts, hash-on, hash-ends}
use Rattle.csv_places.proofs.hash.Goals as goal

pub loop-b-init : goal.loop-b-init
loop-b-init c = search (hash-starts, rules)

pub loop-b-preserved : goal.loop-b-preserved
loop-b-preserved c = search (hash-on, rules)

pub returns : goal.returns
returns c = record { value = search (hash-ends, rules); small = search rules }
