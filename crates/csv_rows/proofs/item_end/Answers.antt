use borrow.Author.Rules.{rules}
use Rattle.csv_rows.proofs.Items.{end-plain, end-two, end-last, end-stop, end-over}
use Rattle.csv_rows.proofs.item_end.Goals as goal

pub loop-i-preserved-then-file-i-ne34 : goal.loop-i-preserved-then-file-i-ne34
loop-i-preserved-then-file-i-ne34 c = search (end-plain, rules)

pub returns-then-j-file : goal.returns-then-j-file
returns-then-j-file c = record { value = search (end-last, rules); within = search rules }

pub returns-then-file-j-ne34 : goal.returns-then-file-j-ne34
returns-then-file-j-ne34 c = record { value = search (end-stop, rules); within = search rules }

pub loop-i-preserved : goal.loop-i-preserved
loop-i-preserved c = search (end-two, rules)

pub returns : goal.returns
returns c = record { value = search (end-over, rules); within = search rules }
