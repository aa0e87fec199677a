use mathlib.Core.Path.{refl}
use Rattle.rules.specs.Lists.{bytes}
use Rattle.report.proofs.Laws.{order_is}
use Rattle.report.proofs.order.Goals as goal

pub returns : goal.returns
unfolding bytes
returns c =
    order_is _ _ _ _ _ _ c.two_fields.ensures c.onward-t.ensures.result_value refl refl
