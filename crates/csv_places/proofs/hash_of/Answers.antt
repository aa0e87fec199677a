use borrow.Author.Rules.{rules}
use Rattle.csv_places.proofs.Laws.{hash-here}
use Rattle.csv_places.proofs.hash_of.Goals as goal

pub returns : goal.returns
returns c = record { value = search (hash-here, rules); small = search rules }
