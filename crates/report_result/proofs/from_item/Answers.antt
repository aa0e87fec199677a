use mathlib.Core.Path.{refl}
use Rattle.rules.specs.Lists.{bytes}
use Rattle.report_result.proofs.Laws.{from_item_is}
use Rattle.report_result.proofs.from_item.Goals as goal

pub returns : goal.returns
unfolding bytes
returns c =
    from_item_is _ _ _ _ _ _ _ _ _ _ _ _ _ _ c.line.ensures c.line-2.ensures c.line-3.ensures c.from_value.ensures
    c.component-code.ensures.result_value c.next_component-u.ensures.result_value c.component-name.ensures.result_value
    c.field_behind-v.ensures.result_value refl refl refl
