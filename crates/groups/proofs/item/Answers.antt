use mathlib.Core.Path.{refl}
use Rattle.lines.proofs.Laws.{exit-is}
use Rattle.groups.proofs.Laws.{item-is}
use Rattle.groups.proofs.item.Goals as goal

pub returns-in_err-line : goal.returns-in_err-line
returns-in_err-line c = item-is _ c.in_err-line.ensures refl refl (exit-is c.from_residual.ensures.1)

pub returns-in_err-line-2 : goal.returns-in_err-line-2
returns-in_err-line-2 c = item-is _ c.in_ok-line.ensures c.in_err-line-2.ensures refl (exit-is c.from_residual-in_err-line-2.ensures.1)

pub returns : goal.returns
returns c = item-is _ c.in_ok-line.ensures c.in_ok-line-2.ensures c.line-3.ensures refl
