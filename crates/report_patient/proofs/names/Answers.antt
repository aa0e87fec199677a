use mathlib.Core.Path.{refl}
use Rattle.rules.specs.Lists.{bytes}
use Rattle.report_patient.proofs.Laws.{names_are}
use Rattle.report_patient.proofs.names.Goals as goal

pub returns : goal.returns
unfolding bytes
returns c =
    names_are _ _ _ _ _ _ _ _ c.name.ensures c.name-2.ensures refl refl refl refl
