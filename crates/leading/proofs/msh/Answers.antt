use Rattle.leading.proofs.Laws.{msh-7, msh-9, msh-10, msh-11, msh-12, msh-18, msh-end}
use Rattle.leading.proofs.msh.Goals as goal

pub returns-in_err-w : goal.returns-in_err-w
returns-in_err-w c = msh-7 c.begin-w.ensures c.in_err-w.ensures c.from_residual.ensures.1

pub returns-in_err-w-2 : goal.returns-in_err-w-2
returns-in_err-w-2 c = msh-9 c.begin-w.ensures c.in_ok-w.ensures c.in_err-w-2.ensures c.from_residual-in_err-w-2.ensures.1

pub returns-in_err-w-3 : goal.returns-in_err-w-3
returns-in_err-w-3 c = msh-10 c.begin-w.ensures c.in_ok-w.ensures c.in_ok-w-2.ensures c.in_err-w-3.ensures c.from_residual-in_err-w-3.ensures.1

pub returns-in_err-w-4 : goal.returns-in_err-w-4
returns-in_err-w-4 c = msh-11 c.begin-w.ensures c.in_ok-w.ensures c.in_ok-w-2.ensures c.in_ok-w-3.ensures c.in_err-w-4.ensures c.from_residual-in_err-w-4.ensures.1

pub returns-in_err-w-5 : goal.returns-in_err-w-5
returns-in_err-w-5 c = msh-12 c.begin-w.ensures c.in_ok-w.ensures c.in_ok-w-2.ensures c.in_ok-w-3.ensures c.in_ok-w-4.ensures c.in_err-w-5.ensures c.from_residual-in_err-w-5.ensures.1

pub returns-in_err-field : goal.returns-in_err-field
returns-in_err-field c = msh-18 c.begin-w.ensures c.in_ok-w.ensures c.in_ok-w-2.ensures c.in_ok-w-3.ensures c.in_ok-w-4.ensures c.in_ok-w-5.ensures c.in_err-field.ensures c.from_residual-in_err-field.ensures.1

pub returns : goal.returns
returns c = msh-end c.begin-w.ensures c.in_ok-w.ensures c.in_ok-w-2.ensures c.in_ok-w-3.ensures c.in_ok-w-4.ensures c.in_ok-w-5.ensures c.in_ok-field.ensures
