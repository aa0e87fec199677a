use borrow.Author.Rules.{rules}
use Rattle.rules.specs.Lists.{bytes}
use Rattle.csv_lines.proofs.Groups.{patient-is}
use Rattle.csv_lines.proofs.Lines.patient.Goals as goal

pub returns : goal.returns
unfolding bytes
returns c = search (patient-is, rules)
