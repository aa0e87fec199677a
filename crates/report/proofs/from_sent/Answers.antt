use mathlib.Core.Path.{refl}
use Rattle.rules.specs.Lists.{bytes}
use Rattle.report.proofs.Laws.{from_sent_is}
use Rattle.report.proofs.from_sent.Goals as goal

pub returns : goal.returns
unfolding bytes
returns c =
    from_sent_is _ _ _ _ _ _ _ _ _ _ _ _ _ c.line.ensures c.line-2.ensures c.line-3.ensures
    c.component-sent.ensures.result_value c.field_behind-u.ensures.result_value c.component-control.ensures.result_value
    c.field_behind-w.ensures.result_value c.component-mode.ensures.result_value refl refl refl
