use Rattle.leading.proofs.Laws.{pv1-2, pv1-end}
use Rattle.leading.proofs.pv1.Goals as goal

pub returns-in_err-field : goal.returns-in_err-field
returns-in_err-field c = pv1-2 c.begin-w.ensures c.in_err-field.ensures c.from_residual.ensures.1

pub returns : goal.returns
returns c = pv1-end c.begin-w.ensures c.in_ok-field.ensures
