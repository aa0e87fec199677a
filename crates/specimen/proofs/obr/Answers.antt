use mathlib.Core.Path.{◌∙◌}
use Rattle.specimen.proofs.Laws.{obr-2, obr-4, obr-end, obr-order}
use Rattle.specimen.proofs.obr.Goals as goal

pub returns-in_err-order-clause-found_in : goal.returns-in_err-order-clause-found_in
returns-in_err-order-clause-found_in c = obr-2 c.begin-w.ensures c.in_err-order.ensures c.from_residual.ensures.1

pub returns-in_err-field-clause-found_in : goal.returns-in_err-field-clause-found_in
returns-in_err-field-clause-found_in c = obr-4 c.begin-w.ensures c.in_ok-order.ensures c.in_err-field.ensures c.from_residual-in_err-field.ensures.1

pub returns-clause-found_in : goal.returns-clause-found_in
returns-clause-found_in c = obr-end c.begin-w.ensures c.in_ok-order.ensures c.in_ok-field.ensures _

pub returns-clause-order : goal.returns-clause-order
returns-clause-order c = c.head_of.ensures ∙ obr-order c.begin-w.ensures c.in_ok-order.ensures c.requires
