use mathlib.Core.Path.{refl}
use Rattle.checks.proofs.Laws.{check-not, check-wrong, check-right}
use Rattle.checks.proofs.check.Goals as goal

pub returns-in_err-o : goal.returns-in_err-o
returns-in_err-o c = check-not _ _ _ c.in_err-o.ensures.result_value c.from_residual.ensures.1

pub check_places-requires : goal.check_places-requires
check_places-requires c = c.in_ok-o.ensures.sound _ refl

pub returns-in_err-check_places : goal.returns-in_err-check_places
returns-in_err-check_places c = check-wrong _ _ _ _ c.in_ok-o.ensures.result_value c.in_err-check_places.ensures c.from_residual-in_err-check_places.ensures.1

pub returns : goal.returns
returns c = check-right _ _ c.in_ok-o.ensures.result_value c.in_ok-check_places.ensures
