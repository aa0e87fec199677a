use Rattle.value.specs.Rules.{fault_no}
use Rattle.fields.proofs.Laws.{handed-on, nothing-broken}
use Rattle.fields.proofs.undivided.Goals as goal

pub returns-in_err-c-clause-told : goal.returns-in_err-c-clause-told
returns-in_err-c-clause-told c = handed-on _ _ _ c.in_err-c.was c.from_residual.ensures.1

pub returns-clause-told : goal.returns-clause-told
unfolding fault_no
returns-clause-told c = nothing-broken _ _ c.in_ok-c.was
