use borrow.Author.Rules.{rules}
use Rattle.csv_keys.proofs.Rows.{patient-is}
use Rattle.csv_keys.proofs.same_patient.Goals as goal

pub returns : goal.returns
returns c = search (patient-is, rules)
