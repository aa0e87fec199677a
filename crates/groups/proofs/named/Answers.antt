use mathlib.Core.Path.{refl}
use Rattle.lines.proofs.Laws.{exit-is}
use Rattle.groups.proofs.Laws.{named-is}
use Rattle.groups.proofs.named.Goals as goal

pub returns-in_err-line : goal.returns-in_err-line
returns-in_err-line c = named-is _ c.in_err-line.ensures refl refl (exit-is c.from_residual.ensures.1)

pub returns-in_err-line-2 : goal.returns-in_err-line-2
returns-in_err-line-2 c = named-is _ c.in_ok-line.ensures c.in_err-line-2.ensures refl (exit-is c.from_residual-in_err-line-2.ensures.1)

pub returns : goal.returns
returns c = named-is _ c.in_ok-line.ensures c.in_ok-line-2.ensures c.line-3.ensures refl
