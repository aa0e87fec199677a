use mathlib.Core.Path.{refl}
use Rattle.rules.specs.Lists.{bytes}
use Rattle.report.proofs.Laws.{visit_is}
use Rattle.report.proofs.visit.Goals as goal

pub returns : goal.returns
unfolding bytes
returns c =
    visit_is _ _ _ _ _ _ c.line.ensures c.onward-t.ensures.result_value c.component-class.ensures.result_value refl
