use mathlib.Core.Path.{refl}
use Rattle.rules.specs.Lists.{bytes}
use Rattle.report_value.proofs.Laws.{numbers_is}
use Rattle.report_value.proofs.numbers.Goals as goal

pub returns : goal.returns
unfolding bytes
returns c =
    numbers_is _ _ _ _ _ _ _ _ _ _ _ _ _ _ _ _ _ _ c.line.ensures c.line-2.ensures c.line-3.ensures c.line-4.ensures refl
    c.onward-t.ensures.result_value c.onward-u.ensures.result_value c.onward-w.ensures.result_value
    c.piece-compare.ensures.result_value c.piece-value.ensures.result_value c.piece-join.ensures.result_value c.piece-second.ensures.result_value
    refl refl refl refl
