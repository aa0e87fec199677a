use mathlib.Core.Path.{refl}
use Rattle.rules.specs.Lists.{bytes}
use Rattle.report.proofs.Laws.{header_is}
use Rattle.report.proofs.header.Goals as goal

pub returns : goal.returns
unfolding bytes
returns c =
    header_is _ _ _ _ _ _ _ c.line_as_is.ensures c.from_sent.ensures c.onward-t.ensures.result_value refl refl
