use Rattle.std.proofs.lemmas.Result.{err_from_is_err_and}
use Rattle.csv_calls.proofs.Sheet.{handed-not, handed-all}
use Rattle.csv_calls.proofs.handed.Goals as goal

pub returns-in_err-judge : goal.returns-in_err-judge
returns-in_err-judge c =
    let p = err_from_is_err_and c.from_residual.result c.from_residual.ensures.1 in
    rw (p.1, p.2) (handed-not _ _ c.in_err-judge.field-0.0 c.in_err-judge.ensures)

pub returns : goal.returns
returns c = handed-all _ _ _ _ _ c.in_ok-judge.ensures c.copied.ensures
