use borrow.Author.Rules.{rules}
use Rattle.csv_rows.proofs.Plain.{comma-is}
use Rattle.csv_rows.proofs.comma_at.Goals as goal

pub returns : goal.returns
returns c = search (comma-is, rules)
