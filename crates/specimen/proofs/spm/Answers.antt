use Rattle.specimen.proofs.Laws.{spm-4, spm-17, spm-end}
use Rattle.specimen.proofs.spm.Goals as goal

pub returns-in_err-w : goal.returns-in_err-w
returns-in_err-w c = spm-4 c.begin-w.ensures c.in_err-w.ensures c.from_residual.ensures.1

pub returns-in_err-field : goal.returns-in_err-field
returns-in_err-field c = spm-17 c.begin-w.ensures c.in_ok-w.ensures c.in_err-field.ensures c.from_residual-in_err-field.ensures.1

pub returns : goal.returns
returns c = spm-end c.begin-w.ensures c.in_ok-w.ensures c.in_ok-field.ensures
