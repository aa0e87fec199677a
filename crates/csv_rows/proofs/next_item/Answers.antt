use borrow.Author.Rules.{rules}
use Rattle.csv_rows.proofs.Items.{item-none, item-unquoted}
use Rattle.csv_rows.proofs.Plain.{comma-item, comma-plain}
use Rattle.csv_rows.proofs.next_item.Goals as goal

pub returns-then-i-file-clause-item_at : goal.returns-then-i-file-clause-item_at
returns-then-i-file-clause-item_at c = search (item-none, rules)

pub returns-then-file-i-ne34-clause-item_at : goal.returns-then-file-i-ne34-clause-item_at
returns-then-file-i-ne34-clause-item_at c = search (item-unquoted, rules)

pub returns-then-comma_at-clause-item_at : goal.returns-then-comma_at-clause-item_at
returns-then-comma_at-clause-item_at c = search (comma-item, rules)

pub returns-then-comma_at-clause-plain : goal.returns-then-comma_at-clause-plain
returns-then-comma_at-clause-plain c = search (comma-plain, rules)
