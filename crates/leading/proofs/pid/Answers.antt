use Rattle.leading.proofs.Laws.{pid-3, pid-5, pid-7, pid-8, pid-end}
use Rattle.leading.proofs.pid.Goals as goal

pub returns-in_err-w : goal.returns-in_err-w
returns-in_err-w c = pid-3 c.begin-w.ensures c.in_err-w.ensures c.from_residual.ensures.1

pub returns-in_err-w-2 : goal.returns-in_err-w-2
returns-in_err-w-2 c = pid-5 c.begin-w.ensures c.in_ok-w.ensures c.in_err-w-2.ensures c.from_residual-in_err-w-2.ensures.1

pub returns-in_err-w-3 : goal.returns-in_err-w-3
returns-in_err-w-3 c = pid-7 c.begin-w.ensures c.in_ok-w.ensures c.in_ok-w-2.ensures c.in_err-w-3.ensures c.from_residual-in_err-w-3.ensures.1

pub returns-in_err-field : goal.returns-in_err-field
returns-in_err-field c = pid-8 c.begin-w.ensures c.in_ok-w.ensures c.in_ok-w-2.ensures c.in_ok-w-3.ensures c.in_err-field.ensures c.from_residual-in_err-field.ensures.1

pub returns : goal.returns
returns c = pid-end c.begin-w.ensures c.in_ok-w.ensures c.in_ok-w-2.ensures c.in_ok-w-3.ensures c.in_ok-field.ensures
