use mathlib.Core.Path.{refl}
use Rattle.lines.proofs.Laws.{exit-is}
use Rattle.groups.proofs.Laws.{parts_is}
use Rattle.groups.proofs.parts.Goals as goal

pub returns-in_err-line : goal.returns-in_err-line
returns-in_err-line c = parts_is _ _ c.value_at.ensures.value c.requires.1 c.part_rules-rules.ensures c.requires.0 c.in_err-line.ensures refl refl refl (exit-is c.from_residual.ensures.1)

pub returns-in_err-line-2 : goal.returns-in_err-line-2
returns-in_err-line-2 c = parts_is _ _ c.value_at.ensures.value c.requires.1 c.part_rules-rules.ensures c.requires.0 c.in_ok-line.ensures c.in_err-line-2.ensures refl refl (exit-is c.from_residual-in_err-line-2.ensures.1)

pub returns-in_err-line-3 : goal.returns-in_err-line-3
returns-in_err-line-3 c = parts_is _ _ c.value_at.ensures.value c.requires.1 c.part_rules-rules.ensures c.requires.0 c.in_ok-line.ensures c.in_ok-line-2.ensures c.in_err-line-3.ensures refl (exit-is c.from_residual-in_err-line-3.ensures.1)

pub returns : goal.returns
returns c = parts_is _ _ c.value_at.ensures.value c.requires.1 c.part_rules-rules.ensures c.requires.0 c.in_ok-line.ensures c.in_ok-line-2.ensures c.in_ok-line-3.ensures c.line_if.ensures refl
