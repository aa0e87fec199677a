use borrow.Author.Rules.{rules}
use Rattle.value.specs.Rules.{fault_no}
use Rattle.fields.proofs.Laws.{repeated-yes, repeated-no, handed-on, nothing-broken}
use Rattle.fields.proofs.divided.Goals as goal

pub returns-then-c-clause-told : goal.returns-then-c-clause-told
unfolding fault_no
returns-then-c-clause-told c = search (repeated-yes, rules)

pub returns-in_err-c-clause-told : goal.returns-in_err-c-clause-told
returns-in_err-c-clause-told c = repeated-no _ _ _ (search rules) (handed-on _ _ _ c.in_err-c.was c.from_residual.ensures.1)

pub returns-clause-told : goal.returns-clause-told
unfolding fault_no
returns-clause-told c = repeated-no _ _ _ (search rules) (nothing-broken _ _ c.in_ok-c.was)
