use borrow.Author.Rules.{rules}
use Rattle.csv_rows.specs.Rows.{items_of}
use Rattle.csv_runs.proofs.Laws.{ends_there, broken-there, other-there, joins-on}
use Rattle.csv_runs.proofs.next_row.Goals as goal

pub returns-then-at-file : goal.returns-then-at-file
returns-then-at-file c = search (ends_there, rules)

pub returns-in_err-r : goal.returns-in_err-r
returns-in_err-r c = rw c.from_residual.ensures (broken-there c.args.file.now (items_of c.args.first.now) c.args.at c.in_err-r.ensures)

pub returns-then-same_number : goal.returns-then-same_number
returns-then-same_number c = search (joins-on, c.in_ok-r.ensures, rules)

pub returns : goal.returns
returns c = search (other-there, c.in_ok-r.ensures, rules)
