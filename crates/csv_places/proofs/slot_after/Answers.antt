use borrow.Author.Rules.{rules}
use Rattle.csv_places.proofs.Laws.{slot-first, slot_next, slot-below}
use Rattle.csv_places.proofs.slot_after.Goals as goal

pub returns-then-slot-eq32767 : goal.returns-then-slot-eq32767
returns-then-slot-eq32767 c = record { value = search (slot-first, rules); within = search rules }

pub returns : goal.returns
returns c = record { value = search (slot_next, rules); within = search (slot-below, rules) }
