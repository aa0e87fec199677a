use mathlib.Core.Path.{refl}
use Rattle.rules.specs.Lists.{bytes}
use Rattle.report_value.proofs.Laws.{single_is}
use Rattle.report_value.proofs.single.Goals as goal

pub returns : goal.returns
unfolding bytes
returns c =
    single_is _ _ _ _ _ _ _ _ _ c.blank_line.ensures c.value.ensures c.blank_line-2.ensures c.blank_line-3.ensures refl refl refl
