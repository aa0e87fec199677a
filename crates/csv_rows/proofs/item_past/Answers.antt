use borrow.Author.Rules.{rules}
use Rattle.csv_rows.proofs.Items.{item-stops}
use Rattle.csv_rows.proofs.Plain.{open-past, bad-past, fine-past, item-plain}
use Rattle.csv_rows.proofs.item_past.Goals as goal

pub returns-then-e-file-clause-item_at : goal.returns-then-e-file-clause-item_at
returns-then-e-file-clause-item_at c = search (open-past, rules)

pub after_close-requires : goal.after_close-requires
after_close-requires c = search (item-stops, rules)

pub returns-in_err-b-clause-item_at : goal.returns-in_err-b-clause-item_at
returns-in_err-b-clause-item_at c = search (bad-past, rules)

pub returns-clause-item_at : goal.returns-clause-item_at
returns-clause-item_at c = search (fine-past, rules)

pub returns-clause-plain : goal.returns-clause-plain
returns-clause-plain c = search (item-plain, rules)
