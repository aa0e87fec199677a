use mathlib.Core.Path.{refl}
use Rattle.rules.specs.Lists.{bytes}
use Rattle.report_value.proofs.Laws.{value_whole, value_part}
use Rattle.report_value.proofs.value.Goals as goal

pub returns-then-c-f : goal.returns-then-c-f
unfolding bytes
returns-then-c-f c = value_whole _ _ _ _ refl _ _ c.first-c.ensures.cut_of c.if-c-f.true c.line_as_is.ensures

pub returns : goal.returns
unfolding bytes
returns c = value_part _ _ _ _ refl _ c.piece-first.ensures.result_value c.line.ensures
