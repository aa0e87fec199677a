use borrow.Author.Rules.{rules}
use Rattle.csv_keys.proofs.Items.{blank-starts, blank-found, blank-on, blank_none}
use Rattle.csv_keys.proofs.blank_at.Goals as goal

pub loop-i-init : goal.loop-i-init
loop-i-init c = search (blank-starts, rules)

pub returns-then-raw-i-eq32 : goal.returns-then-raw-i-eq32
returns-then-raw-i-eq32 c = record { value = search (blank-found, rules); within = search rules }

pub loop-i-preserved : goal.loop-i-preserved
loop-i-preserved c = search (blank-on, rules)

pub returns : goal.returns
returns c = record { value = search (blank_none, rules); within = search rules }
