use mathlib.Core.Path.{refl}
use Rattle.rules.specs.Lists.{bytes}
use Rattle.report_result.proofs.Laws.{from_unit_is}
use Rattle.report_result.proofs.from_unit.Goals as goal

pub returns : goal.returns
unfolding bytes
returns c =
    from_unit_is _ _ _ _ _ _ _ _ _ _ _ _ _ c.line.ensures c.line-2.ensures c.line-3.ensures
    c.component-unit.ensures.result_value c.field_behind-u.ensures.result_value c.component-flag.ensures.result_value
    c.field_behind-w.ensures.result_value c.component-status.ensures.result_value refl refl refl
