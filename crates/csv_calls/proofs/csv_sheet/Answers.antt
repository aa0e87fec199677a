use Rattle.std.proofs.Common.{rules}
use Rattle.std.proofs.lemmas.Result.{err_from_is_err_and}
use Rattle.csv_calls.proofs.Sheet.{sheet-faulty, sheet-none, sheet-there}
use Rattle.csv_calls.proofs.csv_sheet.Goals as goal

pub returns-in_err-sheets : goal.returns-in_err-sheets
returns-in_err-sheets c =
    let p = err_from_is_err_and c.from_residual.result c.from_residual.ensures.1 in
    rw (p.1, p.2) (sheet-faulty _ _ _ _ c.in_err-sheets.field-0.0 c.in_err-sheets.ensures)

pub returns-then-which-sheets : goal.returns-then-which-sheets
returns-then-which-sheets c = search (sheet-none, c.in_ok-sheets.ensures, c.if-which-sheets.true, rules)

pub returns : goal.returns
returns c = search (sheet-there, c.in_ok-sheets.ensures, c.if-which-sheets.false, rules)
