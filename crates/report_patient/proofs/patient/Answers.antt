use mathlib.Core.Path.{refl}
use Rattle.rules.specs.Lists.{bytes}
use Rattle.report_patient.proofs.Laws.{patient_is}
use Rattle.report_patient.proofs.patient.Goals as goal

pub returns : goal.returns
unfolding bytes
returns c =
    patient_is _ _ _ _ _ _ _ _ c.line.ensures c.from_names.ensures
    c.onward-t.ensures.result_value c.component-id.ensures.result_value c.field_behind-u.ensures.result_value refl
