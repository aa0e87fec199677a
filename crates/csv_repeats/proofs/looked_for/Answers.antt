use borrow.Author.Rules.{rules}
use Rattle.csv_repeats.proofs.Laws.{held_at, held-for, free-for, crowded-for}
use Rattle.csv_repeats.proofs.looked_for.Goals as goal

pub found_at-requires : goal.found_at-requires
found_at-requires c = search (held_at, rules)

pub returns-in-Held : goal.returns-in-Held
returns-in-Held c = search (held-for, rules)

pub returns-in-Free : goal.returns-in-Free
returns-in-Free c = search (free-for, rules)

pub returns-in-Crowded : goal.returns-in-Crowded
returns-in-Crowded c = search (crowded-for, rules)
