use borrow.Author.Rules.{rules}
use Rattle.csv_rows.proofs.Plain.{plain_over, plain-on, plain-stop}
use Rattle.csv_rows.proofs.plain_end.Goals as goal

pub returns-then-not-clear : goal.returns-then-not-clear
returns-then-not-clear c = record { value = search (plain-stop, rules); within = search rules }

pub loop-i-preserved : goal.loop-i-preserved
loop-i-preserved c = search (plain-on, rules)

pub returns : goal.returns
returns c = record { value = search (plain_over, rules); within = search rules }
