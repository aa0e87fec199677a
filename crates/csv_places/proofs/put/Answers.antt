use borrow.Author.Rules.{rules}
use Rattle.csv_places.specs.Places.{slot_filled}
use Rattle.csv_places.proofs.put.Goals as goal

pub returns : goal.returns
unfolding slot_filled
returns c = search rules
