use mathlib.Core.Path.{refl}
use Rattle.rules.specs.Lists.{bytes}
use Rattle.report.proofs.Laws.{specimen_is}
use Rattle.report.proofs.specimen.Goals as goal

pub returns : goal.returns
unfolding bytes
returns c =
    specimen_is _ _ _ _ _ _ c.two_fields.ensures c.onward-t.ensures.result_value refl refl
