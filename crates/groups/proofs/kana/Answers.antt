use mathlib.Core.Path.{refl}
use Rattle.lines.proofs.Laws.{exit-is}
use Rattle.groups.proofs.Laws.{kana-is}
use Rattle.groups.proofs.kana.Goals as goal

pub returns-in_err-line : goal.returns-in_err-line
returns-in_err-line c = kana-is _ c.value_at.ensures.value c.value_at-2.ensures.value c.kana_fits-also.ensures c.requires c.in_err-line.ensures refl (exit-is c.from_residual.ensures.1)

pub returns : goal.returns
returns c = kana-is _ c.value_at.ensures.value c.value_at-2.ensures.value c.kana_fits-also.ensures c.requires c.in_ok-line.ensures c.line_if.ensures refl
