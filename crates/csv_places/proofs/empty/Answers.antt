use borrow.Author.Rules.{rules}
use Rattle.csv_places.proofs.Laws.{nothing-kept}
use Rattle.csv_places.proofs.empty.Goals as goal

pub returns : goal.returns
returns c = record { result_len = search rules; none = nothing-kept 65536 }
