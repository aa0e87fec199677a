use borrow.Author.Rules.{rules}
use Rattle.csv_places.specs.Places.{keeps_place, with_place}
use Rattle.csv_places.proofs.Laws.{free-inside, kept_low, kept_high, with-low, with-high}
use Rattle.csv_places.proofs.keep.Goals as goal

pub put-requires : goal.put-requires
put-requires c = search (free-inside, rules)

pub returns-then-at-lt4294967296 : goal.returns-then-at-lt4294967296
returns-then-at-lt4294967296 c = record { value = search (kept_low, rules); kept = search (with-low, rules) }

pub returns-in-Held : goal.returns-in-Held
unfolding keeps_place with_place
returns-in-Held c = search rules

pub returns-else-at-lt4294967296 : goal.returns-else-at-lt4294967296
returns-else-at-lt4294967296 c = record { value = search (kept_high, rules); kept = search (with-high, rules) }

pub returns-in-Crowded : goal.returns-in-Crowded
unfolding keeps_place with_place
returns-in-Crowded c = search rules
