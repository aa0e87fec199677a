use mathlib.Core.Path.{refl}
use Rattle.lines.proofs.Laws.{exit-is}
use Rattle.groups.proofs.Laws.{specimen-is}
use Rattle.groups.proofs.specimen.Goals as goal

pub returns-in_err-line : goal.returns-in_err-line
returns-in_err-line c = specimen-is _ c.in_err-line.ensures refl (exit-is c.from_residual.ensures.1)

pub returns : goal.returns
returns c = specimen-is _ c.in_ok-line.ensures c.line-2.ensures refl
